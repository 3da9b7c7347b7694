pub mod Fields
pub mod Changes
pub mod Clearing
pub mod Links
pub mod Room

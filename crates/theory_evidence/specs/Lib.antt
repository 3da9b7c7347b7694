pub mod Network
pub mod Evidence
pub mod Call
pub mod Theorem
pub mod Cases

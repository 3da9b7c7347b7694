pub mod Replies
pub mod Version

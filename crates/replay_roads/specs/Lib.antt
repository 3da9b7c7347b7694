pub mod Runs
pub mod Naming
pub mod InWords
pub mod Counting

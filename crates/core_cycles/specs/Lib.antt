pub mod BlocksIn
pub mod Numbering
pub mod Writing

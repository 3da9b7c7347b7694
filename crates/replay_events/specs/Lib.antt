pub mod Kinds
pub mod Tagging
pub mod Writing

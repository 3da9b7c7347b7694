pub mod Area
pub mod Load
pub mod Reduction

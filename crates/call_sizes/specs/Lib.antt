pub mod Numbers
pub mod Refusal
pub mod Sizes

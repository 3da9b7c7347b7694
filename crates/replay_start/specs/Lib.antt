pub mod Start
pub mod Whole

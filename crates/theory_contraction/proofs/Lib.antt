pub mod Acceptance
pub mod Pieces
pub mod EdgeNames

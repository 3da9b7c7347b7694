pub mod Contraction
pub mod Pieces
pub mod EdgeNames

pub mod Lists
pub mod Graph
pub mod Contraction
pub mod Cut
pub mod Route
pub mod SmallGraph
pub mod Pieces

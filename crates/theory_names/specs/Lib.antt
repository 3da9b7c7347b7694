pub mod Names
pub mod NamedSmallGraph
pub mod Trail

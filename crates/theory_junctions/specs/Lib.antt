pub mod Reply
pub mod Colouring
pub mod ReducedGraph
pub mod Blocks
pub mod Classes
pub mod PathMerging
pub mod Reduce
pub mod Cases

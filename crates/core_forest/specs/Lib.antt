pub mod Forest
pub mod AdjacencyLists
pub mod Search

pub mod Counting
pub mod HalfEdges
pub mod AdjacencyLaws
pub mod SearchLaws

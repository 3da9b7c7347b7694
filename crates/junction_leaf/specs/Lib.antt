pub mod JunctionLeaf

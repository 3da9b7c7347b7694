pub mod BranchCounts
pub mod SmallForest
pub mod Numbers
pub mod Ways
pub mod Classes

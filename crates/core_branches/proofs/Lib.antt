pub mod BranchCountLaws
pub mod SmallForestLaws
pub mod KeptClasses
pub mod ForestOfClasses
pub mod NumberLaws
pub mod WayLaws
pub mod SmallForestOf
pub mod ClassLaws

pub mod DescendLaws
pub mod PartLaws
pub mod DescentLaws
pub mod WholeListLaws

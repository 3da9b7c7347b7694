pub mod SearchedForest
pub mod ClassLaws
pub mod PathLaws
pub mod EdgeLaws

pub mod SearchSets
pub mod Classes

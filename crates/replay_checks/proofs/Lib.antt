pub mod SetLaws
pub mod CheckLaws

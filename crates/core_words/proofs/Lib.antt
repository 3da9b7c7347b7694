pub mod FieldLaws
pub mod ChangeLaws
pub mod ClearLaws
pub mod LinkLaws

pub mod StartLaws
pub mod WholeLaws
pub mod ListLaws

pub mod OutcomeLaws
pub mod ResultLaws

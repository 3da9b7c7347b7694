pub mod BlocksFound
pub mod ReadLaws
pub mod ReduceLaws

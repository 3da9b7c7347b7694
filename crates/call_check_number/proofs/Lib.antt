pub mod Cases
pub mod CheckNumberLaws

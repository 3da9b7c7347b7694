pub mod KindLaws
pub mod Cases

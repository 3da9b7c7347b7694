pub mod OrderLaws
pub mod CountLaws
pub mod NodeLaws
pub mod NumberLaws
pub mod NumberingLaws
pub mod WriteLaws
pub mod CycleLaws

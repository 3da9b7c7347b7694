pub mod EdgeListLaws
pub mod ListingLaws
pub mod NumberLaws
pub mod EdgeOrder
pub mod PieceLaws
pub mod ReduceLaws

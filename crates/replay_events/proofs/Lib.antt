pub mod KindLaws
pub mod TaggingLaws
pub mod WritingLaws
pub mod QueryLaws

pub mod JunctionAreaLaws
pub mod JunctionStepLaws

pub mod RunLaws
pub mod NamingLaws
pub mod RoadWordLaws
pub mod CountingLaws

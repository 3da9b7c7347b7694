pub mod Descent
pub mod List

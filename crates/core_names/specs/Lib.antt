pub mod EdgeNames

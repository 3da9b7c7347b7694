pub mod JunctionArea

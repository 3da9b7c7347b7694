pub mod JunctionList

pub mod JunctionWhole

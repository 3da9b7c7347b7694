pub mod JunctionWholeLaws

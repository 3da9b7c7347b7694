pub mod JunctionDescentLaws

pub mod JunctionLeafLaws

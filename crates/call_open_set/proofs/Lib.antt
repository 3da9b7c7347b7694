pub mod OpenSetLaws

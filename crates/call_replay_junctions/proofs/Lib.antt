pub mod JunctionCallLaws

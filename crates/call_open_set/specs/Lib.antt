pub mod OpenSet

pub mod JunctionDescent

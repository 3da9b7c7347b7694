pub mod Tops
pub mod Merging
pub mod Components

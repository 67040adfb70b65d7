pub mod Copied
pub mod SetCells

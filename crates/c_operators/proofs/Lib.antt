pub mod Nulls
pub mod Parts
pub mod Ways

pub mod Parts
pub mod Levels
pub mod Found
pub mod Nesting

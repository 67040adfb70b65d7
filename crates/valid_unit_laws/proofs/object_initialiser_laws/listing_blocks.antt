pub mod Parts
pub mod Automatic
pub mod Rows
pub mod Whole
pub mod PassedOn

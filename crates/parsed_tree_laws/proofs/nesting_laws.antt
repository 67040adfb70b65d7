pub mod Nesting
pub mod Parts
pub mod Rows
pub mod PassedOn

pub mod Rows
pub mod Declarations
pub mod Whole
pub mod PassedOn

pub mod Language
pub mod Rows

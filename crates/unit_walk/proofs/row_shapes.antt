mod Expressions
mod Declaring
mod Named
pub mod Rows

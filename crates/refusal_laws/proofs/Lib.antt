mod Steps
mod Values
mod Expressions
mod Declaring
mod Statements
pub mod Rows

pub mod Climbing
pub mod Growing
pub mod Rows
pub mod Once
pub mod Adding

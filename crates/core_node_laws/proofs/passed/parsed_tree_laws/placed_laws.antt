pub mod Once
pub mod Adding
pub mod Climbing
pub mod Rows
pub mod Names

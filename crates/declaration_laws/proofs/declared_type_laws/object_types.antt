pub mod Typing
pub mod PassedOn

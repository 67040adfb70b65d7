pub mod Naming
pub mod Climbing
pub mod PassedOn

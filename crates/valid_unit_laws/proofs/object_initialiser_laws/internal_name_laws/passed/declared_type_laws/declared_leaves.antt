pub mod Climbing
pub mod PassedOn
pub mod Naming

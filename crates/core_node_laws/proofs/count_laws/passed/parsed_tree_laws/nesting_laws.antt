pub mod Nesting
pub mod PassedOn

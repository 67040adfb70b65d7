pub mod Parsed
pub mod PassedOn

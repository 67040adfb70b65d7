pub mod Bare
pub mod PassedOn

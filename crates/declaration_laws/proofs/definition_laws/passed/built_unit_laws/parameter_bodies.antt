pub mod PassedOn
pub mod Bare

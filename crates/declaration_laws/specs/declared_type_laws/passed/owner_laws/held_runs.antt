pub mod PassedOn
pub mod Runs

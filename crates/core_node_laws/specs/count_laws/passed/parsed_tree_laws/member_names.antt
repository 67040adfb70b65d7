pub mod Differ
pub mod PassedOn

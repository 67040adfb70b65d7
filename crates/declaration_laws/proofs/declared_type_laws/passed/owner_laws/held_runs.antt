pub mod PassedOn
pub mod Whole

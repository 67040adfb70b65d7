pub mod Whole
pub mod PassedOn

pub mod Literals
pub mod PassedOn

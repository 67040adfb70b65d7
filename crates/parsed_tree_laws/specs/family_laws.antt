pub mod Families
pub mod PassedOn

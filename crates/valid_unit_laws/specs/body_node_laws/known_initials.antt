pub mod Initials
pub mod PassedOn

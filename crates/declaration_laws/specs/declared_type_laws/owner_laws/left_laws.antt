pub mod Lefts
pub mod PassedOn

pub mod Lowered
pub mod PassedOn

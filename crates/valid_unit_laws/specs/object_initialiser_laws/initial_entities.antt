pub mod Own
pub mod PassedOn

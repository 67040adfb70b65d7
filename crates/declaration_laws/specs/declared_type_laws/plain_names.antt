pub mod Plain
pub mod PassedOn

pub mod PassedOn
pub mod Known

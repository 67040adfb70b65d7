pub mod Parameters
pub mod PassedOn

pub mod Constants
pub mod PassedOn

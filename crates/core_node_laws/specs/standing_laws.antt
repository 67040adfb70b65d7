pub mod Standing
pub mod PassedOn

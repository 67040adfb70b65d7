pub mod Run
pub mod PassedOn

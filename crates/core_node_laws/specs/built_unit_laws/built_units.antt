pub mod Built
pub mod PassedOn

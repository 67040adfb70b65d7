pub mod Built
pub mod Along
pub mod Standing
pub mod PassedOn

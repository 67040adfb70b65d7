pub mod Objects
pub mod PassedOn

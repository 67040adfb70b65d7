pub mod Placed
pub mod PassedOn

pub mod Filled
pub mod PassedOn

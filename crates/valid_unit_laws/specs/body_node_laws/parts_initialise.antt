pub mod Initialise
pub mod PassedOn

pub mod Settled
pub mod PassedOn

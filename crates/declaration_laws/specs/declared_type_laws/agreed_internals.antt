pub mod Agreeing
pub mod PassedOn

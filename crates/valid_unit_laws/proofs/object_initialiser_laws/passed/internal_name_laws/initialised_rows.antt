pub mod PassedOn
pub mod Owning

pub mod Owning
pub mod PassedOn

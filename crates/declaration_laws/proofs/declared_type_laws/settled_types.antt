pub mod Initial
pub mod Settling
pub mod PassedOn

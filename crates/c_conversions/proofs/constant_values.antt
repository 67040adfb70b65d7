pub mod Leaves
pub mod Valuing
pub mod PassedOn

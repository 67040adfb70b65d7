pub mod Left
pub mod PassedOn

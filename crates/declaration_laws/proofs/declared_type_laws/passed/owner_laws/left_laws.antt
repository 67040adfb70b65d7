pub mod PassedOn
pub mod Left

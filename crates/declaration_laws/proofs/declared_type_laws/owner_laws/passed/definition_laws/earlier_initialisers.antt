pub mod Coming
pub mod PassedOn

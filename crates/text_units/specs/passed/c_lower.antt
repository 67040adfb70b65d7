pub mod passed
pub mod PassedOn

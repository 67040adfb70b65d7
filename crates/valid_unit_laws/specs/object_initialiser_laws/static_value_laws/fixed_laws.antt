pub mod Fixed
pub mod PassedOn

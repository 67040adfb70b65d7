pub mod Units
pub mod PassedOn

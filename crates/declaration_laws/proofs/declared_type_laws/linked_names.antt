pub mod Fitting
pub mod PassedOn

pub mod PassedOn
pub mod Fitting

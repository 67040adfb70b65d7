pub mod Low
pub mod Fitting

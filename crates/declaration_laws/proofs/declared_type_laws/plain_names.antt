pub mod Later
pub mod Fitting

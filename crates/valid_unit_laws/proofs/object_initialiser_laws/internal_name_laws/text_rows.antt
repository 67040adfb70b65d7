pub mod Fitting
pub mod Linked

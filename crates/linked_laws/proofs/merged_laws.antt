pub mod Members
pub mod Completing
mod Alike
pub mod Terms
pub mod Fitting

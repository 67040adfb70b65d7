pub mod Constants
pub mod Targets
pub mod constant_values
pub mod passed

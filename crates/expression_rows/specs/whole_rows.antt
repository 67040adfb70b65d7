pub mod Calls
pub mod Prefix
pub mod Constants
pub mod Whole

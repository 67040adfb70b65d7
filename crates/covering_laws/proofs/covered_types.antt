pub mod Whole
pub mod Returns
pub mod Calls

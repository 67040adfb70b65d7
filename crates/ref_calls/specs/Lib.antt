pub mod Signatures
pub mod Calls
pub mod Reached
pub mod Library
pub mod Lists
pub mod Outcomes
pub mod Ending

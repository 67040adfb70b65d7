pub mod Values
pub mod Passed
pub mod Met
pub mod Bare

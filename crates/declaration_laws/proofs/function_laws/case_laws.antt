pub mod Tested
pub mod Switches
pub mod Cases

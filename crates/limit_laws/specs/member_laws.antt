pub mod Members
pub mod Measured

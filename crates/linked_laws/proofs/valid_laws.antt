mod Together
mod Measured
pub mod Whole

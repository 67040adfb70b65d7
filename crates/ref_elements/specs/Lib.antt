pub mod Arguments
pub mod Outcomes
pub mod Types
pub mod Objects
pub mod Runs
pub mod Parts

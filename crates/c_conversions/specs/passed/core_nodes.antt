pub mod Standing
pub mod Sorts

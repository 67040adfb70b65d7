pub mod Standing
pub mod PassedOn
pub mod Parts
pub mod Searching

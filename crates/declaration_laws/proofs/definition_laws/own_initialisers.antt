pub mod Parts
pub mod Searching
pub mod Standing
pub mod PassedOn

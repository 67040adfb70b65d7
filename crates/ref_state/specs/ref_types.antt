pub mod Types
pub mod Longer

pub mod Storage
pub mod Objects
pub mod Whole

pub mod Inward
pub mod Whole
pub mod Reading

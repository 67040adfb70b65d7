mod Settings
mod Known
mod Asked
pub mod Whole

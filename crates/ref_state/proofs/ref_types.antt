pub mod Longer
pub mod Copied

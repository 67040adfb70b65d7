mod Reading
mod Completed
pub mod Sizes

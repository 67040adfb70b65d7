mod Numbers
mod Reading
pub mod Whole

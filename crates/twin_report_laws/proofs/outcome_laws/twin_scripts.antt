pub mod Reading
mod Searches
mod Firsts
mod Settings
pub mod Whole

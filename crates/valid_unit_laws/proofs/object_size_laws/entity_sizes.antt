pub mod Lists
pub mod Words
pub mod Types
pub mod Known
pub mod Placed
pub mod Internals
pub mod Whole

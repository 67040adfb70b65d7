pub mod Flat
pub mod Begins
pub mod Unique
pub mod Yield
pub mod Order
pub mod Meanings
pub mod Entries
pub mod Combines

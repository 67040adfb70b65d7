pub mod Stays
pub mod Exists
pub mod Awaited

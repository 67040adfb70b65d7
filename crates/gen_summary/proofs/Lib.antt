pub mod Counting
pub mod Shared

pub mod Counts
pub mod Covers

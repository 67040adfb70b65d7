pub mod Ranks
pub mod Matched
pub mod Zips
pub mod Entries
pub mod Sorted
pub mod Blocks
pub mod Whole

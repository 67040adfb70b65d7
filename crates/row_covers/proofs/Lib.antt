pub mod Walked
pub mod Spotted
pub mod Rows
pub mod Sums
pub mod Decided

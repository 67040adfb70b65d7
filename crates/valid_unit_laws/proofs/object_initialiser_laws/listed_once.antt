pub mod Sums
pub mod Objects
pub mod Nodes
pub mod Places
pub mod Whole

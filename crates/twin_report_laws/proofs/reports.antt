mod Spots
mod Matched
mod Calls
pub mod Over
pub mod Sets
pub mod Edges
pub mod Whole

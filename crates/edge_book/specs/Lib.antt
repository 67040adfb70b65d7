pub mod Edges
pub mod Leaving

pub mod Nodes
pub mod Facts

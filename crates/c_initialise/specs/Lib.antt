pub mod Facts
pub mod Nodes
pub mod Read
pub mod c_braces
pub mod placed_paths
pub mod initial_paths
pub mod passed

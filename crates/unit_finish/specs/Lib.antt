pub mod Complete
pub mod Walked
pub mod unit_parts
pub mod own_bodies
pub mod planted_nodes

pub mod Once
pub mod Standing
pub mod Sorts
pub mod PassedOn
pub mod kept_nodes
pub mod passed

pub mod core_nodes
pub mod core_tree

pub mod core_nodes

pub mod core_node_laws

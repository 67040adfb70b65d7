pub mod body_node_laws

pub mod specified_types
pub mod built_valid
pub mod lowered_laws
pub mod passed
pub mod plain_functions
pub mod object_size_laws
pub mod body_node_laws
pub mod object_initialiser_laws

pub mod parsed_tree_laws
pub mod location_laws

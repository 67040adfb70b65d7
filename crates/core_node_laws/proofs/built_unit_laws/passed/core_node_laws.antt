pub mod literal_nodes
pub mod standing_laws

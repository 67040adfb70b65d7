pub mod standing_laws
pub mod literal_nodes

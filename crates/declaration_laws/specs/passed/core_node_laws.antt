pub mod standing_laws
pub mod marked_trees

pub mod trees

pub mod core_tree

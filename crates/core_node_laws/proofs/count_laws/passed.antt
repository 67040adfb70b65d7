pub mod parsed_tree_laws

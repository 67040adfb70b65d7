pub mod c_grammar
pub mod c_types

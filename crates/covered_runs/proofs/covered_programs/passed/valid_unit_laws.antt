pub mod object_size_laws
pub mod plain_functions

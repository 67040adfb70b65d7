pub mod object_sizes
pub mod parameter_sizes
pub mod literal_sizes
pub mod entity_sizes
pub mod function_storage
pub mod passed

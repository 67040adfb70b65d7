pub mod object_initialiser_laws
pub mod limit_laws

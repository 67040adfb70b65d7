pub mod name_shapes
pub mod name_laws
pub mod named_laws
pub mod object_laws

pub mod named_laws
pub mod name_shapes
pub mod name_laws

pub mod family_laws
pub mod span_laws
pub mod member_names
pub mod statement_shapes
pub mod grown_parts
pub mod ordered_parts

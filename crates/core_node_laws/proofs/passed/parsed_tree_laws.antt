pub mod family_laws
pub mod nesting_laws
pub mod statement_shapes
pub mod span_laws
pub mod placed_laws
pub mod member_names
pub mod grown_parts

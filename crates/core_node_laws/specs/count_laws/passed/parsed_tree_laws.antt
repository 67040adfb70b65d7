pub mod grown_parts
pub mod span_laws
pub mod sign_parts
pub mod family_laws
pub mod member_names
pub mod nesting_laws
pub mod counted_parts
pub mod ordered_parts

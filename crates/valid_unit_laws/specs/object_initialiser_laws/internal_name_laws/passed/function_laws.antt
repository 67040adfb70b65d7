pub mod body_laws
pub mod function_bodies

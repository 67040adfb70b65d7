pub mod body_laws
pub mod Functions
pub mod case_laws
pub mod function_bodies
pub mod named_definitions
pub mod result_laws
pub mod body_returns

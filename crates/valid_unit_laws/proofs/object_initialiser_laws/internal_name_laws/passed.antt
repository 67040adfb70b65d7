pub mod declared_type_laws
pub mod function_laws

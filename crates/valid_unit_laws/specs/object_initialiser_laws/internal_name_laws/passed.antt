pub mod function_laws
pub mod declared_type_laws

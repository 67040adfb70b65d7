pub mod scope_laws
pub mod Definitions
pub mod function_definitions
pub mod earlier_initialisers
pub mod linkage_laws
pub mod initialiser_laws
pub mod function_origins

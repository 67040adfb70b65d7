pub mod definition_laws

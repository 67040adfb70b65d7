pub mod limit_laws

pub mod run_laws
pub mod literal_types
pub mod unlinked_laws
pub mod built_laws

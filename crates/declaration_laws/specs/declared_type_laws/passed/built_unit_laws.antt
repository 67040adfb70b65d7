pub mod built_rows
pub mod built_units
pub mod literal_types
pub mod align_laws
pub mod built_laws

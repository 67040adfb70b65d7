pub mod owner_laws
pub mod built_unit_laws

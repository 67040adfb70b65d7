pub mod built_unit_laws

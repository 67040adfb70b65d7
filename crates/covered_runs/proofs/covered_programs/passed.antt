pub mod valid_unit_laws

pub mod internal_name_laws

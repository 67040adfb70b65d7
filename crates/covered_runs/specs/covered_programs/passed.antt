pub mod valid_unit_laws
pub mod machine_sound

pub mod used_names
pub mod named_by_place
pub mod fault_laws
pub mod text_faults
pub mod twin_programs
pub mod twin_words
pub mod twin_locations
pub mod twin_scripts

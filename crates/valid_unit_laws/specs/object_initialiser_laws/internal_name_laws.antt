pub mod text_rows
pub mod initialised_rows
pub mod internal_types
pub mod internal_names
pub mod representative_names
pub mod passed

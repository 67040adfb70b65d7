pub mod Reading
pub mod numbered_laws
pub mod source_laws
pub mod right_laws

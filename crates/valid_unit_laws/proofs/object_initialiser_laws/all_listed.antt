pub mod Path
pub mod Literals
pub mod Tops
pub mod Whole
pub mod PassedOn

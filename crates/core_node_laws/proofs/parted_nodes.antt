pub mod Inits
pub mod Initialised
pub mod Rows
pub mod All

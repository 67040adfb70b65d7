pub mod Tree
pub mod Given
pub mod Initialised

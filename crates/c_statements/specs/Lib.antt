pub mod Fors
pub mod Labels
pub mod Others
pub mod Owning
pub mod Parts

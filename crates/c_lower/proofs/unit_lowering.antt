pub mod Owning
pub mod Ending

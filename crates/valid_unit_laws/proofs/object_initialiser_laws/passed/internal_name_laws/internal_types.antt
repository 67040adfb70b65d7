pub mod Asked
pub mod Initials

pub mod Completing
pub mod Entries
pub mod Worlds
pub mod Sensing

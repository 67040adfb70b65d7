pub mod Complete
pub mod Tables
pub mod Worlds

pub mod Worlds
pub mod Ways
pub mod Steps
pub mod Laws

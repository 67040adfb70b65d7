pub mod Standings
pub mod Scopes
pub mod Whole
pub mod Tree
pub mod Knowing

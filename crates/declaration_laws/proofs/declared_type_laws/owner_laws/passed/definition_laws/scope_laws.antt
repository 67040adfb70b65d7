pub mod Tree
pub mod Standings
pub mod Scopes
pub mod Knowing
pub mod Whole
pub mod Around

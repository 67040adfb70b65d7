pub mod Tree
pub mod Standings
pub mod Scopes
pub mod Around
pub mod Parameters
pub mod Knowing
pub mod Whole

pub mod Keeps
pub mod Holding
pub mod Wholes
pub mod Copies
pub mod Adding
pub mod Events
pub mod Samples

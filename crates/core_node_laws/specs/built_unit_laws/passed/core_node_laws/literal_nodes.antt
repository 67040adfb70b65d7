pub mod Holding
pub mod Unnamed

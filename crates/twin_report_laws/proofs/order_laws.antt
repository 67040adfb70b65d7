pub mod Spots
pub mod Orders

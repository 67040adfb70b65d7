mod Objects
mod Along
pub mod Spots
pub mod Items

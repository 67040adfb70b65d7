pub mod Objects
pub mod Mains

pub mod Grown
pub mod Placed
pub mod Kinds
pub mod Copied
pub mod Planted

pub mod Grounded
pub mod Named
pub mod Fresh
pub mod Arguments

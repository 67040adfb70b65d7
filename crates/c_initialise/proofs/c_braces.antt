pub mod Inits
pub mod Putting
pub mod Wide
pub mod Shaped
pub mod Reached
pub mod Grown

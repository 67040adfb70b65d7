pub mod Standing
pub mod Naming
pub mod Backwards
pub mod Ordered

pub mod Asserting
pub mod Enumerating
pub mod Tagging
pub mod Backwards
pub mod Ordered

pub mod Words
pub mod Specifiers
pub mod Free
pub mod Placed
pub mod tag_keys
pub mod given_keys

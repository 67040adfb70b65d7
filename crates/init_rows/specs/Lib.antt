pub mod Objects
pub mod Around
pub mod Types
pub mod Literals
pub mod Joined

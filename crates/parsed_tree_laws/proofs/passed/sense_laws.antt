pub mod Giving
pub mod Types
pub mod Completing

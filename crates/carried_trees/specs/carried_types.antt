pub mod Types
pub mod Terms
pub mod Wider
pub mod Members
pub mod Told

pub mod Bytes
pub mod Cores
pub mod Steps
pub mod Inner

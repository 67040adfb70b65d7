pub mod Readings
pub mod Computing
pub mod Finding
pub mod Running

pub mod Allocation
pub mod Plain

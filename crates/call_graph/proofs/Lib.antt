pub mod Ordered
pub mod Gaining

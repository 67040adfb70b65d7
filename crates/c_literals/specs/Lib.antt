pub mod Digits
pub mod Integers
pub mod Elements
pub mod Laws
pub mod Readings

pub mod Ranges
pub mod Bits
pub mod Listed

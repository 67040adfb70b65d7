pub mod Listed
pub mod Mismatches

pub mod Gathered
pub mod Made

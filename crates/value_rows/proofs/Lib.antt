pub mod Pairs
pub mod Parameters
pub mod Arguments
pub mod Called

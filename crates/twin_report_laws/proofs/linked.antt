pub mod Names
pub mod Ready
pub mod Called
pub mod Whole

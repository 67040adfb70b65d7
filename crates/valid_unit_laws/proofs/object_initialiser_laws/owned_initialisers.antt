pub mod Function
pub mod Names
pub mod Literals
pub mod Whole

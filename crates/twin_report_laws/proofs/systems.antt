pub mod Leading
pub mod Itself
pub mod Whole

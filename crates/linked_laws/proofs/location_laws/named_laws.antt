pub mod Moved
pub mod Members
pub mod Defined
pub mod Whole

pub mod Compact
pub mod Functions
pub mod Rows
pub mod Effects
pub mod Calls
pub mod Whole

pub mod Types
mod Apart
pub mod Agreeing
mod Members
pub mod Names
mod Rows
mod Fixed
mod Initial
pub mod Whole

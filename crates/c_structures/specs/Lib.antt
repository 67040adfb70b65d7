pub mod Members
pub mod Fields
pub mod Named
pub mod Before
pub mod Widths
pub mod Listed
pub mod Kept

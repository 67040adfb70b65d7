pub mod Terms
pub mod Within
pub mod Staying
pub mod Specifiers
pub mod Testing
pub mod Nesting
pub mod Flags

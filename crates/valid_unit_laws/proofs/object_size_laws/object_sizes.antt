pub mod Growing
pub mod Completing
pub mod Rows
pub mod Lengths
pub mod Sizes

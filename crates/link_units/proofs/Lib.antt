pub mod Adding
pub mod Growing
pub mod Noding
pub mod Whole
pub mod Typing
pub mod Wanting

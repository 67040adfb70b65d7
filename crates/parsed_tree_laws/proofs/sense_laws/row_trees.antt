pub mod Conversions
pub mod Operators
pub mod Objects
pub mod Expressions

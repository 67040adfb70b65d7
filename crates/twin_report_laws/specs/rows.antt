pub mod Paired
pub mod Ready
pub mod One

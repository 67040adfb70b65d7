pub mod Kinds
pub mod Conversions
pub mod Members
pub mod Numbers
pub mod Sizes
pub mod term_types

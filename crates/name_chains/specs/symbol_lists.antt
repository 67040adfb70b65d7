pub mod Symbols
pub mod Lists

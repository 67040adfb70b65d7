pub mod Lists
pub mod Parts
pub mod Sources
pub mod Library
pub mod Objects
pub mod Placing
pub mod Whole

mod Lists
mod Stable
mod Units
mod Matching
mod Numbering
mod Entities
mod Nodes
mod Owned
pub mod Whole

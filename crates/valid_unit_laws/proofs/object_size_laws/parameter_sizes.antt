pub mod Lists
pub mod Named
pub mod Sizes
pub mod PassedOn

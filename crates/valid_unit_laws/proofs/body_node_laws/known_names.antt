pub mod Scopes
pub mod Uses
pub mod Lists
pub mod Trees
pub mod Whole

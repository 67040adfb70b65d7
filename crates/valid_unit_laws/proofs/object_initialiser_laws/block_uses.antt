pub mod Scopes
pub mod Making
pub mod Whole

pub mod Fixed
pub mod Along
pub mod Scope
pub mod Filling

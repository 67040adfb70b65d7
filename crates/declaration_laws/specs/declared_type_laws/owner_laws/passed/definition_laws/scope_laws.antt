pub mod Beneath
pub mod Scoped

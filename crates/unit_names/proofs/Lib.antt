pub mod Symbols
pub mod Places
pub mod Typed
pub mod Parts
pub mod Listing
mod Past
pub mod Known

pub mod Deciding
pub mod Gathered
pub mod Numbers
pub mod Naming
pub mod Typed

pub mod Marked
pub mod Copied
pub mod Keeps

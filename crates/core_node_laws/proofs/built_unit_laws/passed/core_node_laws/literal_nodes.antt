pub mod Unnamed
pub mod All

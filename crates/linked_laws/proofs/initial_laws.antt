pub mod Paths
pub mod Initials

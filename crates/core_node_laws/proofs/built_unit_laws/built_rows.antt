pub mod Renaming
pub mod Placed

pub mod Placed
pub mod Entities
pub mod Entries

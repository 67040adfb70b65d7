pub mod Belows
pub mod Asked
pub mod Functions
pub mod Entities
pub mod Initials
pub mod Reading
pub mod PassedOn

pub mod Owned
pub mod Start
pub mod System
pub mod Types

pub mod Entities

pub mod Entities
pub mod Further

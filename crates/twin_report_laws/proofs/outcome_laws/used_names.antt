pub mod Knowing
pub mod Roles
pub mod Parts
pub mod Primaries
pub mod Senses
pub mod Standing
pub mod Whole

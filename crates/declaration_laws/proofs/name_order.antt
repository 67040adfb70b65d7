pub mod Knowing
pub mod Roles
pub mod Ordered

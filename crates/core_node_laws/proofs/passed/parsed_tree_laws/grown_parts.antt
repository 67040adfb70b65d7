pub mod Single
pub mod Declaring
pub mod Allowed

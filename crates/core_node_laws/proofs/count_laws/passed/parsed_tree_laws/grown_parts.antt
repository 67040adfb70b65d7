pub mod Declaring
pub mod Allowed
pub mod Reading

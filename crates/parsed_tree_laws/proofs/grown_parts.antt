pub mod Reading
pub mod Rows
pub mod Declaring
pub mod Single
pub mod Allowed

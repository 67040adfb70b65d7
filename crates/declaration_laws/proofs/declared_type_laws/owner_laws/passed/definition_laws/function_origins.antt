pub mod Declaring
pub mod Coming

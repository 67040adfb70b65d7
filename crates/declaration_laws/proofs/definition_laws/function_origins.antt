pub mod Coming
pub mod Declaring

pub mod Declaring
pub mod Standing

pub mod Reading
pub mod Found
pub mod Declaring
pub mod Whole
pub mod Sensed

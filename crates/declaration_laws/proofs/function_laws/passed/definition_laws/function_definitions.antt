pub mod Reading
pub mod Shapes
pub mod Mentioned
pub mod Sensed
pub mod Whole
pub mod Defining
pub mod PassedOn
pub mod Declaring

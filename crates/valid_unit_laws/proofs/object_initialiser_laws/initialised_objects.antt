pub mod Shapes
pub mod Literals
pub mod Initials

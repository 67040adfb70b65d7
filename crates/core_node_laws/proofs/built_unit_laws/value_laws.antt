pub mod Inside
pub mod Shapes
pub mod Values

pub mod Shapes
pub mod Inside
pub mod Rows
pub mod Sizes

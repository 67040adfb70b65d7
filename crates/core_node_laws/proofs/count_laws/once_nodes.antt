pub mod Found
pub mod Shapes
pub mod Rooted
pub mod Whole

pub mod Bytes
pub mod Shapes

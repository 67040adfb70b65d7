mod Extents
mod Moving
pub mod Counting
mod Tagged
pub mod Whole

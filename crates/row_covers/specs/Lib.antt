pub mod Edges
pub mod Parts
pub mod Scene
pub mod Cells
pub mod Objects
pub mod Targets
pub mod Values

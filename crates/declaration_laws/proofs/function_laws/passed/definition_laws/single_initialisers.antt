pub mod Apart
pub mod Parts

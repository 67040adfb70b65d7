pub mod Parts
pub mod Complete

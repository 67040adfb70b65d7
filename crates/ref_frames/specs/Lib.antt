pub mod Running
pub mod Frames
pub mod Made
pub mod Tops
pub mod OnTop

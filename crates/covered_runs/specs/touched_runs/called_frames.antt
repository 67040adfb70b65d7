pub mod Looked
pub mod Layers
pub mod Laws

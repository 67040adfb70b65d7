pub mod Says
pub mod Parts
pub mod Gotos
pub mod Functions
pub mod passed

pub mod Fresh
pub mod Nearest
pub mod Initialised
pub mod Computed

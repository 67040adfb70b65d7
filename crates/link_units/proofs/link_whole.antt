pub mod Sizes
pub mod Numbered
pub mod Entering

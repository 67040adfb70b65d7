pub mod Keeping
pub mod Parts
pub mod Linking
pub mod Worlds
pub mod Arguments
pub mod Prefixes

pub mod Using
pub mod Linking
pub mod Naming
pub mod Rowing

pub mod Gaining
pub mod Reaching
pub mod Paths
pub mod Rising
pub mod Touching
pub mod Calling

pub mod Placed
pub mod Named
pub mod Owned
pub mod Made
pub mod Steps
pub mod Frames

pub mod Moved
pub mod Joined
pub mod Starts
pub mod Leaders

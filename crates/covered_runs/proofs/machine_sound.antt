pub mod Frames
pub mod Lists
pub mod Rows
pub mod Libraries
pub mod Ends
pub mod Steps
pub mod Runs
pub mod Scenes

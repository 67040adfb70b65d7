pub mod Frames
pub mod Bare
pub mod Decided
pub mod Covers
pub mod Exact
pub mod Whole
pub mod Runs

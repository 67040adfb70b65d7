pub mod Accesses
pub mod Touched
pub mod Runs
pub mod called_frames

pub mod Declares
pub mod Flags
pub mod Kept
pub mod Keyed
pub mod Given

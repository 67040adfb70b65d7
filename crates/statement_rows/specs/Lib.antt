pub mod Kept
pub mod Kinds
pub mod Parts
pub mod Told
pub mod Words

pub mod Texts
pub mod Rows
pub mod Parts
pub mod Readable

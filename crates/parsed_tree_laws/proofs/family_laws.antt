mod Owning
mod Rows
mod Tokens
mod Parts
pub mod Reading

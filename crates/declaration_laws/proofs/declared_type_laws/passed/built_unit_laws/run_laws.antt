pub mod Times
pub mod Automatic
pub mod Running

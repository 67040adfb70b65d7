pub mod Times
pub mod Shapes
pub mod Automatic
pub mod Running
pub mod PassedOn

pub mod Rooms
pub mod Parents
pub mod Parts
pub mod Main
pub mod passed

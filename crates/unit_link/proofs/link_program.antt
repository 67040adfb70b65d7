pub mod Counting
pub mod Places
pub mod Scenes
pub mod Leading
pub mod Readying
pub mod Rows
pub mod Numbering

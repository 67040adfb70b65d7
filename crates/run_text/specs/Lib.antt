pub mod Lines
pub mod Names
pub mod RunText
pub mod Joined

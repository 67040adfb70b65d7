pub mod Onward
pub mod Typing

pub mod Ordered
pub mod Shown
pub mod Texts

mod Keywords
mod Leaves
pub mod Texts

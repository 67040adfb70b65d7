pub mod Table
pub mod Steps
pub mod Reading
pub mod Whole
pub mod Lefts

pub mod Steps
pub mod Counting
pub mod Rows
pub mod Read

mod Rows
mod Covering
pub mod Reading
pub mod Locals
pub mod passed

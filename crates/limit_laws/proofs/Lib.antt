mod Reading
mod Deriving
mod Completed
mod Expressions
mod Shapes
mod Typedefs
mod Climbing
mod Rows
mod Meanings
pub mod Limited

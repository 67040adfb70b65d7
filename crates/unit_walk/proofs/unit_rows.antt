mod Cover
pub mod Nothing
pub mod Answers
mod Saying
mod Expressions

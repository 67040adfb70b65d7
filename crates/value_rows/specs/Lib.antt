pub mod Equality
pub mod Choices
pub mod Assignments
pub mod Calls

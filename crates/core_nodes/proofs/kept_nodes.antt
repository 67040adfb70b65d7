pub mod Marking
pub mod Copying
pub mod Trees

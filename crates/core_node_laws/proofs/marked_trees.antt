pub mod Earlier
pub mod Beneath
pub mod Marks
pub mod Trees
pub mod Nodes
pub mod Once

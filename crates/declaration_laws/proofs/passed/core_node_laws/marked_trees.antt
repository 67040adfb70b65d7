pub mod Marks
pub mod Trees
pub mod Nodes
pub mod Once
pub mod Beneath
pub mod Earlier

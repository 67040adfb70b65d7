pub mod Core
pub mod Nodes
pub mod Wrapped
pub mod Operators
pub mod Answer

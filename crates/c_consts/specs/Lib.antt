pub mod Core
pub mod Wrapped
pub mod Operators
pub mod Answer
pub mod Nodes
pub mod Spine
pub mod passed

pub mod Nodes
pub mod Levels
pub mod Numbering
pub mod Chains
pub mod Handing
pub mod Alike
pub mod Speaking
pub mod Recalling

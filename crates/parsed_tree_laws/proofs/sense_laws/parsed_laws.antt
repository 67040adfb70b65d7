pub mod InOrder
pub mod Constants

pub mod Body
pub mod Built

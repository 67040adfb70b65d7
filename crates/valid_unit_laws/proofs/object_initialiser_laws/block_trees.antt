pub mod Off
pub mod Free
pub mod Rows
pub mod Chain

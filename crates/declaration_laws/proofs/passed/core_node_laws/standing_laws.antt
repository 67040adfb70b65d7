pub mod Bodies
pub mod Descending
pub mod Climbing
pub mod Kept
pub mod Rows
pub mod Walking
pub mod Enclosing

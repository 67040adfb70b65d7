pub mod Items
pub mod Moves
pub mod Rows
pub mod Backs
pub mod Steps
pub mod Runs

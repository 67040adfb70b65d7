mod Steps
pub mod Order
mod Counted
mod Among
pub mod Members
pub mod Few
pub mod PassedOn

pub mod Balance
pub mod Orders
pub mod Rounds
pub mod Turns
pub mod Work
pub mod delta_prop

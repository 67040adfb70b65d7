pub mod Lists
mod Places
pub mod Renaming
pub mod Nodes
pub mod Bodies
pub mod Entities
pub mod Trees
pub mod Inside
mod Listing
mod Functions
mod Uses
pub mod Whole

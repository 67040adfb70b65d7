pub mod Classes
pub mod Renumbering
pub mod Laws
pub mod Orders
pub mod Gathered
pub mod Firsts
pub mod Onward

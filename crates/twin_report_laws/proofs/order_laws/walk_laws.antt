pub mod Orders
pub mod Picked
pub mod Shown
pub mod Lasting
pub mod Texts

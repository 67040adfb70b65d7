pub mod Lists
pub mod Order
pub mod Seen
pub mod Names
pub mod Earlier
pub mod Reading
pub mod PassedOn

pub mod Reading
pub mod Order
pub mod Seen
pub mod Lists
pub mod PassedOn

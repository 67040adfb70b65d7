pub mod Listing
pub mod PassedOn

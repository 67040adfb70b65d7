pub mod Listing
pub mod Lining

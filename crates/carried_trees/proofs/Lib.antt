pub mod Behind
pub mod Listing
pub mod Moved
pub mod Extending
pub mod Telling

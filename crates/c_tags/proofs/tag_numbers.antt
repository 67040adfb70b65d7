pub mod Listing
pub mod Places
pub mod Ordering
pub mod Numbering
pub mod Knowing
pub mod Skipping

pub mod Viewed
pub mod Listed
pub mod Given
pub mod Told
pub mod passed

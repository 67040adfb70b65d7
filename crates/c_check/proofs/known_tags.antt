pub mod Knowing
pub mod Climbed
pub mod Opened
pub mod Telling
pub mod Valued

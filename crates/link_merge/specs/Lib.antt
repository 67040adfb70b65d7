pub mod Codes
pub mod Keys
pub mod Tags
pub mod Counted
pub mod Complete
pub mod Classes
pub mod Parted
pub mod Kids

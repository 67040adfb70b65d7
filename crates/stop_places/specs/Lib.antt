pub mod Fits
pub mod Far
pub mod Targets
pub mod Loose
pub mod Stops
pub mod Found
pub mod Sight

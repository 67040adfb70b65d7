pub mod Makers
pub mod Spots
pub mod Units
pub mod Linking

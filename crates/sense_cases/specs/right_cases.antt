pub mod Units
pub mod Pointed
pub mod Locals
pub mod Lengths

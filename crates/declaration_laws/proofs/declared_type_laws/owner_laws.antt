pub mod Defined
pub mod Naming
pub mod Below
pub mod Walk
pub mod Fixed
pub mod Unnamed
pub mod Whole
pub mod passed

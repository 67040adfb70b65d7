pub mod Keeping
pub mod Sources
pub mod Stopping
pub mod Walking
pub mod passed

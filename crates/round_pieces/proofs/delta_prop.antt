pub mod Carries
pub mod Readings
pub mod Going
pub mod Sounding

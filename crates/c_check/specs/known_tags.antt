pub mod Known
pub mod Given
pub mod Own
pub mod Told
pub mod Values

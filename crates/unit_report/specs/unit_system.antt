pub mod Numbered
pub mod Of
pub mod Right
pub mod Faults

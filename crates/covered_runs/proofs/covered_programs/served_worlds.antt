pub mod Stars
pub mod Serving
pub mod Stored

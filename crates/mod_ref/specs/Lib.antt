pub mod Places
pub mod Direct
pub mod Touch
pub mod Gains
pub mod Ways
pub mod Ground

pub mod declared
pub mod Typed
pub mod Rows
pub mod Valid

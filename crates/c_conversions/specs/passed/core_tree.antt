pub mod Typed
pub mod declared
pub mod Rows
pub mod Valid

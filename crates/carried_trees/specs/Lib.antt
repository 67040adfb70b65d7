pub mod Carried
pub mod Literals
pub mod Numbered
pub mod Copied
pub mod Extends
pub mod Told
pub mod carried_types

pub mod Numbering
pub mod Rightness
pub mod Refused
pub mod Unnamed
pub mod Validity

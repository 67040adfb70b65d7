pub mod Marking
pub mod Keeping
pub mod Ring

pub mod Spelling
pub mod Asked
pub mod Linkage
pub mod Used
pub mod Reading

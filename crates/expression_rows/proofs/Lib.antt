pub mod Productions
pub mod Readable
pub mod Keeping

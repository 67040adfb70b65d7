pub mod Inside
pub mod Unlinked

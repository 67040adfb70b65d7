pub mod Seen
pub mod tag_numbers

pub mod Marking
pub mod KeyIs
pub mod Keying
pub mod Giving
pub mod Rightly

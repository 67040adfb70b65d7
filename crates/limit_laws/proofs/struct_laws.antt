pub mod Opening
pub mod Lists
pub mod Untaken
pub mod Words
mod Parting
pub mod Members

pub mod Laws
pub mod Untaken
pub mod Words
pub mod PassedOn

pub mod Expressed
pub mod Told
pub mod Reached
pub mod known_tags
pub mod literal_entities

pub mod declared_leaves
pub mod known_entities

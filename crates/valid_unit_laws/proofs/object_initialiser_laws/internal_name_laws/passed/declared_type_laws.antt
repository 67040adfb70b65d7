pub mod declared_uses
pub mod declared_leaves
pub mod known_entities
pub mod plain_names

pub mod Orders
pub mod walk_laws

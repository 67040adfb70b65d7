pub mod Words
pub mod Types
pub mod PassedOn
pub mod remembered_names

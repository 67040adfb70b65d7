pub mod Linked
pub mod Chained
pub mod Scoped
pub mod Seeing
pub mod Finding
pub mod Symboled

pub mod Moving
pub mod Joining
pub mod Numbering
pub mod StartLemmas
pub mod Unions

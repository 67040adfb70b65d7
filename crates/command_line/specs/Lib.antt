pub mod Distinct
pub mod Language
pub mod Meaning
pub mod Rules

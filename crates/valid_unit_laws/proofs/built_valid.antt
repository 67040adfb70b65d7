pub mod Sound
pub mod Whole
pub mod PassedOn

pub mod Signs
pub mod Whole
pub mod PassedOn

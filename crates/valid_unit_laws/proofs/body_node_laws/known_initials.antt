pub mod Trees
pub mod Names
pub mod Whole
pub mod PassedOn

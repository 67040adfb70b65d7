pub mod Trees
pub mod Names
pub mod Rests
pub mod Automatic
pub mod Functions
pub mod Roots
pub mod Own
pub mod PassedOn

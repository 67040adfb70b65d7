pub mod Standing
pub mod Later
pub mod Rows
pub mod Literals
pub mod Declarators
pub mod Objects
pub mod Whole
pub mod PassedOn

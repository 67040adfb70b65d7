pub mod Forms
pub mod Rows
pub mod Statements
pub mod Initialisers
pub mod Nodes
pub mod Made

pub mod Naming
pub mod Body
pub mod Earlier
pub mod Returning
pub mod Built

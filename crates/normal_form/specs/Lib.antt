pub mod Each
pub mod Assignments
pub mod Spots
pub mod Facts
pub mod SystemOf
pub mod Laws

pub mod World
pub mod Items
pub mod Awaited
pub mod State
pub mod Exists
pub mod Laws

pub mod Completes
pub mod Taken
pub mod Built
pub mod Standing
pub mod Laws
pub mod tag_types

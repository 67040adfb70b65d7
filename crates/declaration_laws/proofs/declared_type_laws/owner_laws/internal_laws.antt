pub mod Sorted
pub mod Specs
pub mod Settled
pub mod Same
pub mod Known
pub mod Reading
pub mod PassedOn

pub mod Heads
pub mod Standing
pub mod Reading
pub mod PassedOn

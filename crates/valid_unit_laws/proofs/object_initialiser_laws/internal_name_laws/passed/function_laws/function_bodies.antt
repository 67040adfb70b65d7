pub mod Reading
pub mod PassedOn
pub mod Standing

pub mod Spans
pub mod Lefts

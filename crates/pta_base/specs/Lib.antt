pub mod Outside
pub mod Kind
pub mod MemoryUnits
pub mod MemorySink
pub mod Steps

pub mod OneAnswer
pub mod Faults

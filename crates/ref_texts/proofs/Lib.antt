pub mod TextSteps
pub mod PartSteps

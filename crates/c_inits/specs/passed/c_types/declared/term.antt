pub mod Form
pub mod PathStep

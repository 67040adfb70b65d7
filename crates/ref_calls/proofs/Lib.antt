pub mod TypeLists
pub mod Performed
pub mod PendingSteps

pub mod Together
pub mod Steps
pub mod Going
pub mod AllHappen
pub mod Growing
pub mod Keys
pub mod Unlabelled
pub mod Passing

pub mod Answering
pub mod ToldTrees
pub mod Growing

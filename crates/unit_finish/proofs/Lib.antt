pub mod Lists
pub mod Standing
pub mod Rightness
pub mod Finished
pub mod Results

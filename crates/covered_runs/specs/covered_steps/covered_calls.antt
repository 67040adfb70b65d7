pub mod Activations
pub mod Results
pub mod Entering

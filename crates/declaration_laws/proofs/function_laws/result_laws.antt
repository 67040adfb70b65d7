pub mod Sized
pub mod Results

pub mod Said
pub mod Passing
pub mod Lists
pub mod Completed
pub mod Words
pub mod Named

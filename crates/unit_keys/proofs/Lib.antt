pub mod Lists
pub mod Around
pub mod Taking
pub mod Naming
pub mod Counting
pub mod Noting

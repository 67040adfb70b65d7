pub mod Stacked
pub mod Runnable
pub mod Rows
pub mod Founded

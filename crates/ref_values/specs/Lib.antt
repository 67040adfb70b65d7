pub mod Numbers
pub mod Memory
pub mod Values

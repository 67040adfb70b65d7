pub mod Traces
pub mod Served
pub mod Steps

pub mod Internals

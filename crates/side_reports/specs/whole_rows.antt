pub mod Expanded

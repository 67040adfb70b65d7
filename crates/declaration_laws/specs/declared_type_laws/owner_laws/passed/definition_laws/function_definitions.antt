pub mod Defined

pub mod Automatic

pub mod Aligns

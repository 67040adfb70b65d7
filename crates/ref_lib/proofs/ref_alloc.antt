pub mod Regrown

pub mod term

pub mod Written
pub mod Lines
pub mod Placing
pub mod Listed

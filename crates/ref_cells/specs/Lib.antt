pub mod Cells
pub mod Order
pub mod Numbers
pub mod Wholes
pub mod Places
pub mod Values
pub mod Puts
pub mod Answers

pub mod Numbers
pub mod Membered
pub mod Adding
pub mod Flagging
pub mod Widening

pub mod Answers
pub mod Alone
pub mod Lowered
pub mod Refused
pub mod Faults
pub mod Kinds
pub mod passed

pub mod Through
pub mod Splitting
pub mod Answering
pub mod Taking
pub mod Bits
pub mod Renewals
pub mod Unread

pub mod Pairs
pub mod Taking
pub mod Gaining
pub mod Alone
pub mod Targets

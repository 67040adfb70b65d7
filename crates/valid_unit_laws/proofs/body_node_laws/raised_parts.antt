pub mod Chains
pub mod Holders
pub mod Whole

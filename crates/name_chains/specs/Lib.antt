pub mod Links
pub mod Chains
pub mod Seen
pub mod Symbols
pub mod symbol_lists

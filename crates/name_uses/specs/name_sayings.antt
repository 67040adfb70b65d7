pub mod Listed
pub mod Opening

pub mod Second
pub mod Found

pub mod Rows
pub mod Found
pub mod Lists
pub mod Entities
pub mod Agreeing
pub mod PassedOn

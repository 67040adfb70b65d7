pub mod Linkable
pub mod Reports

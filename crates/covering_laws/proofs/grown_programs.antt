pub mod Tables
pub mod Types
pub mod Numbers
pub mod Demanded
pub mod Listed
pub mod Starts
pub mod Systems

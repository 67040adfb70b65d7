pub mod Families
pub mod Places
pub mod Rules
pub mod Systems
pub mod Solutions
pub mod Targets
pub mod Words
pub mod Growth

pub mod Completing
pub mod Memberships
pub mod Building
pub mod Growing

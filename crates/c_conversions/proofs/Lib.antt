pub mod Constants
pub mod FirstMembers
pub mod Failing
pub mod ValueRows
pub mod passed

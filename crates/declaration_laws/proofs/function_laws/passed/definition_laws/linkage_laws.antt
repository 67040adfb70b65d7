pub mod Seen
pub mod Linked
pub mod Reading
pub mod Unlinked
pub mod Roles
pub mod Standings

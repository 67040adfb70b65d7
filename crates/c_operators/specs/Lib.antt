pub mod Seen
pub mod Joined
pub mod Between
pub mod Members
pub mod c_members

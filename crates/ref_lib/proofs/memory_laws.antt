pub mod Follow
pub mod Changes
pub mod Steps
pub mod Elements
pub mod Copies
pub mod Texts
pub mod Allocation
pub mod Effects

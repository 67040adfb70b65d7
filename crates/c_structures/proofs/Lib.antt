pub mod Gathering
pub mod Fielding
pub mod Naming
pub mod Ascending
pub mod Covering
pub mod Preceding
pub mod Opening

pub mod Roles
pub mod Numbered
pub mod Keeps
pub mod Roling
pub mod Finishing
pub mod Answered

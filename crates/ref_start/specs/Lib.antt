pub mod Objects
pub mod Standing
pub mod Fixed
pub mod Start
pub mod Begin
pub mod Entries
pub mod Handed

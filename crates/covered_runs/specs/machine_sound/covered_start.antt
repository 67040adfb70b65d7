pub mod Objects
pub mod Fixed
pub mod Arguments
pub mod Start

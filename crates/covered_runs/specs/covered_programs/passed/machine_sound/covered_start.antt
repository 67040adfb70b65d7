pub mod Objects
pub mod Start

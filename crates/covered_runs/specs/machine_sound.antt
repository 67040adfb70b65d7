pub mod Carried
pub mod Scenes
pub mod covered_start

pub mod Asking
pub mod Costs
pub mod Extents
pub mod Rests
pub mod Steps
pub mod Working

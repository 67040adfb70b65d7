pub mod Marked
pub mod Numbered
pub mod Renamed
pub mod Uses
pub mod Entities
pub mod Turns

pub mod Keys
pub mod Uses
pub mod Placed
pub mod Range

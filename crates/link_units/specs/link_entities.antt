pub mod Uses
pub mod Row
pub mod Linking

pub mod Views
pub mod Deriving
pub mod Uses
pub mod Specs
pub mod Typing
pub mod Reading

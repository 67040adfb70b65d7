pub mod Gift
pub mod Ring

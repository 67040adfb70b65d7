pub mod Keys
pub mod Located

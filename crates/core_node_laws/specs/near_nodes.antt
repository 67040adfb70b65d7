pub mod Holding
pub mod Near

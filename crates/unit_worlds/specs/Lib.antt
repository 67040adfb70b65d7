pub mod Growing
pub mod Laws
pub mod unit_limits

pub mod Laws
pub mod PassedOn
pub mod unit_lowering
pub mod passed

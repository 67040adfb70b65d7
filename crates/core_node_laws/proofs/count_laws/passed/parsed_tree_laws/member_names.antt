pub mod Order
pub mod PassedOn

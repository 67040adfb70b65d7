pub mod Walked
pub mod Stopping
pub mod Ground
pub mod PassedOn
pub mod filling_laws
pub mod row_shapes
pub mod unit_rows

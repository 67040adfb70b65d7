pub mod Known
pub mod Further
pub mod PassedOn

pub mod Bodies
pub mod PassedOn

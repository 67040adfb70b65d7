pub mod Under
pub mod Coming
pub mod PassedOn

pub mod Alone
pub mod Around
pub mod Looked
pub mod Built
pub mod Usual
pub mod PassedOn
pub mod name_sayings
pub mod passed

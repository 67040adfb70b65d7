pub mod Completing
pub mod PassedOn
pub mod All
pub mod Standing
pub mod Giving
pub mod Types
pub mod parsed_laws
pub mod statement_laws

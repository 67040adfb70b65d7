pub mod Internal
pub mod PassedOn

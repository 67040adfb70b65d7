pub mod Known
pub mod Places
pub mod Binding
pub mod Happens
pub mod Resolves
pub mod PassedOn
pub mod passed

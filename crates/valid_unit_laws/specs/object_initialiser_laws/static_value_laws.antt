pub mod fixed_laws
pub mod static_literals
pub mod built_filled

pub mod built_units
pub mod parameter_bodies

pub mod Whole
pub mod held_runs
pub mod automatic_runs
pub mod internal_laws
pub mod Naming
pub mod held_parts
pub mod left_laws
pub mod Unnamed

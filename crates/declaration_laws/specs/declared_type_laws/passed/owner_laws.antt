pub mod held_runs
pub mod automatic_runs
pub mod left_laws

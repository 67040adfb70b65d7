pub mod covered_steps
pub mod machine_sound
pub mod covered_programs
pub mod touched_runs

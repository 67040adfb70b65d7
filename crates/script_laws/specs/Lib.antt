pub mod Scripted
pub mod told_runs

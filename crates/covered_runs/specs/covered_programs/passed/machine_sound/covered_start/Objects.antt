pub use Rattle.covered_runs.specs.machine_sound.covered_start.Objects.{IsSolved}

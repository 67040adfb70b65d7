pub use Rattle.c_lower.specs.passed.unit_walk.Walked.{AreDense}

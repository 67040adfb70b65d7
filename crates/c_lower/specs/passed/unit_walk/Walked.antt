pub use Rattle.unit_walk.specs.Walked.{AreDense, RefusedIn}

pub use Rattle.core_tree.specs.Rows.{int, long, character, Initialises}

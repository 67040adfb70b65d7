pub use Rattle.parsed_tree_laws.specs.sense_laws.Laws.{Grows}

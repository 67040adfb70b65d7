-- Results whose constants can be computed.
use Rattle.std.specs.Prelude.{List, All}
use Rattle.core_tree.specs.declared.node.Unit.{Unit}
use Rattle.c_results.specs.declared.made.Made.{Made}
use Rattle.c_results.specs.Standing.{sense_made}
pub use Rattle.parsed_tree_laws.specs.sense_laws.row_trees.Trees.{SenseHasRows}

abbrev pub HaveRowsMade : Unit → List Made → Type 0
HaveRowsMade u results = All (λ m. SenseHasRows (sense_made u m)) results

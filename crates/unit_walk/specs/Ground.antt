-- What is known of a unit before its rows.
use Rattle.std.specs.Prelude.{ℕ, length}
use Rattle.c_scope.specs.declared.resolving.Bound.{Bound}
use Rattle.c_senses.specs.Tree.{Source}
use Rattle.tree_reads.specs.Sources.{source_in}
use Rattle.unit_walk.specs.unit_rows.Standing.{AreKnown}
use Rattle.unit_walk.specs.declared.units.Ground.{Ground}

abbrev pub IsGround : Ground → Bound → Type 0
IsGround g b = AreKnown g.numbered b g.names g.lists g.kinds

abbrev pub source_ground : Ground → Bound → Source
source_ground g b = source_in g.numbered.syntax b.uses.items

abbrev pub nodes_ground : Ground → ℕ
nodes_ground g = length g.numbered.syntax.tree.now.nodes.items

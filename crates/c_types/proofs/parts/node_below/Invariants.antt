use Rattle.std.proofs.Common.{◌≡◌, ◌<◌, length, []}
use Rattle.c_types.specs.Trees.{tree_at, grown}
use Rattle.c_types.specs.Table.{extent_in, node_of}
use Rattle.c_types.specs.Inside.{IsPlain, terms_of, table_of}
use Rattle.c_types.proofs.parts.node_below.Given as goal

abbrev pub invariant-loop-rest : goal.invariant-loop-rest
invariant-loop-rest l = record {
  known : l.whole < length l.entries;
  plain : IsPlain (tree_at (grown [] (terms_of l.entries)) l.whole);
  same : node_of (extent_in (table_of l.entries l.tags l.completed) (tree_at (grown [] (terms_of l.entries)) l.fn.id.0)) l.fn.node ≡ node_of (extent_in (table_of l.entries l.tags l.completed) (tree_at (grown [] (terms_of l.entries)) l.whole)) l.rest;
}

abbrev pub decreases-loop-rest : goal.decreases-loop-rest
decreases-loop-rest l = l.rest

use Rattle.std.proofs.Common.{◌≡◌, ◌≤◌, length}
use Rattle.c_types.specs.Trees.{trees_at}
use Rattle.c_types.specs.Table.{types_of}
use Rattle.call_sites.specs.Calls.{ids_of}
use Rattle.ref_elements.specs.Types.{same_types}
use Rattle.ref_calls.proofs.TypeLists.{same_from}
use Rattle.ref_calls.proofs.signatures.same_values.Given as goal

abbrev pub invariant-loop-i : goal.invariant-loop-i
invariant-loop-i l = record {
  within : l.i ≤ length l.values;
  same : same_from (types_of l.trees.types.now) l.parameters (ids_of l.trees.nodes.now l.values) l.i
      ≡ same_types (trees_at (types_of l.trees.types.now) l.parameters) (trees_at (types_of l.trees.types.now) (ids_of l.trees.nodes.now l.values));
}

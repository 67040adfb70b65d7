use Rattle.std.proofs.Common.{◌≡◌, ◌≤◌, length}
use Rattle.c_types.specs.Trees.{trees_at}
use Rattle.c_types.specs.Table.{types_of}
use Rattle.ref_elements.specs.Types.{same_types}
use Rattle.ref_calls.proofs.TypeLists.{same_from}
use Rattle.ref_calls.proofs.signatures.same_list.Given as goal

abbrev pub invariant-loop-i : goal.invariant-loop-i
invariant-loop-i l = record {
  within : l.i ≤ length l.b;
  same : same_from (types_of l.types) l.a l.b l.i ≡ same_types (trees_at (types_of l.types) l.a) (trees_at (types_of l.types) l.b);
}

use Rattle.std.proofs.Common.{◌≡◌, ◌≤◌, length, map}
use Rattle.c_types.specs.declared.key.ObjectKey.TheVariants.{Entity}
use Rattle.c_types.specs.Trees.{trees_at}
use Rattle.c_types.specs.Table.{types_of}
use Rattle.core_tree.specs.Seen.{core_of}
use Rattle.ref_frames.specs.Frames.{have_types}
use Rattle.ref_frames.proofs.ListedTypes.{typed_from}
use Rattle.ref_frames.proofs.entering.have_types.Given as goal

abbrev pub invariant-loop-k : goal.invariant-loop-k
invariant-loop-k l = record {
  within : l.k ≤ length l.list;
  same : typed_from (core_of l.trees) (types_of l.trees.types.now) l.parameters l.list l.k
      ≡ have_types (core_of l.trees) (map Entity l.parameters) (trees_at (types_of l.trees.types.now) l.list);
}

use Rattle.std.proofs.Common.{◌≡◌, ◌++◌, None, drop}
use Rattle.core_tree.specs.Seen.{core_of}
use Rattle.ref_start.specs.Objects.{objects_after}
use Rattle.ref_start.proofs.objects.all_objects.Given as goal

abbrev pub invariant-loop-l : goal.invariant-loop-l
invariant-loop-l l =
    l.list.items ++ objects_after (core_of l.trees) l.types l.before (drop l.l l.space)
    ≡ objects_after (core_of l.trees) l.types None l.space

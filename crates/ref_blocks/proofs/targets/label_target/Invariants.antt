-- The first one is among those that are left.
use Rattle.std.proofs.Common.{◌≡◌, drop, find}
use Rattle.ref_blocks.specs.Ways.{root_of}
use Rattle.ref_blocks.specs.Jumps.{label_target}
use Rattle.ref_blocks.specs.Marks.{is_label_at}
use Rattle.ref_blocks.proofs.targets.label_target.Given as goal

abbrev pub invariant-loop-t : goal.invariant-loop-t
invariant-loop-t l =
    find (is_label_at l.trees.nodes.now (root_of l.trees.nodes.now l.n) l.name) (drop l.t-index l.marks)
    ≡ label_target l.trees.nodes.now l.n l.name

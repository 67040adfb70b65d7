-- The first one is among those that are left.
use Rattle.std.proofs.Common.{◌≡◌, drop, find}
use Rattle.ref_blocks.specs.Jumps.{case_of}
use Rattle.ref_blocks.specs.Marks.{is_case_at}
use Rattle.ref_blocks.proofs.targets.case_of.Given as goal

abbrev pub invariant-loop-n : goal.invariant-loop-n
invariant-loop-n l = find (is_case_at l.trees.nodes.now l.s l.x) (drop l.n-index l.marks) ≡ case_of l.trees.nodes.now l.s l.x

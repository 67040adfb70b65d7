use Rattle.std.proofs.Common.{◌≡◌, ◌+◌, ◌++◌, drop}
use Rattle.ref_frames.specs.Frames.{pointers_from}
use Rattle.ref_frames.proofs.entering.pointers_from.Given as goal

abbrev pub invariant-loop-k : goal.invariant-loop-k
invariant-loop-k l = l.stores ++ pointers_from (l.first + l.k) (drop l.k l.instances) ≡ pointers_from l.first l.instances

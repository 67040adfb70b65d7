-- So many are there.
use Rattle.std.proofs.Common.{◌≡◌, replicate, None}
use Rattle.ref_blocks.proofs.parents.none_above.Given as goal

abbrev pub invariant-loop : goal.invariant-loop
invariant-loop l = l.parents.items ≡ replicate l.counter None

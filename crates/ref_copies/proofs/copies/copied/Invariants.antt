-- The elements so far, and those that are left.
use Rattle.std.proofs.Common.{◌≡◌, ◌-◌}
use Rattle.ref_copies.specs.Copies.{copied}
use Rattle.ref_copies.proofs.Copied.{with_more}
use Rattle.ref_copies.proofs.copies.copied.Given as goal

abbrev pub invariant-loop-k : goal.invariant-loop-k
invariant-loop-k l = with_more l.parts.items (copied l.types l.memory l.source l.target l.k (l.n - l.k)) ≡ copied l.types l.memory l.source l.target 0 l.n

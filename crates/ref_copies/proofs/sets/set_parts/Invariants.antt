-- The parts so far, and those that are left.
use Rattle.std.proofs.Common.{◌≡◌, ◌-◌, ◌++◌}
use Rattle.ref_copies.specs.Copies.{set_parts}
use Rattle.ref_copies.proofs.sets.set_parts.Given as goal

abbrev pub invariant-loop-k : goal.invariant-loop-k
invariant-loop-k l = l.parts.items ++ set_parts l.run l.cells l.k (l.n - l.k) ≡ set_parts l.run l.cells 0 l.n

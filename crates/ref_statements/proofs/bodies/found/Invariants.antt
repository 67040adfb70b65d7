-- The value is among those that are left.
use Rattle.std.proofs.Common.{◌≡◌, ◌==◌, drop}
use Rattle.std.specs.Prelude.{find}
use Rattle.ref_statements.proofs.bodies.found.Given as goal

abbrev pub invariant-loop-entry : goal.invariant-loop-entry
invariant-loop-entry l = find (λ v. v.0 == l.n) (drop l.entry-index l.values) ≡ find (λ v. v.0 == l.n) l.values

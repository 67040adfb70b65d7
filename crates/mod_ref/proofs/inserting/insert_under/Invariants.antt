use Rattle.std.proofs.Common.{◌+◌, ◌<◌, ◌≤◌}
use Rattle.mod_ref.specs.Gains.{Gains, In}
use Rattle.mod_ref.proofs.inserting.insert_under.Given as goal

-- the first i nodes under the location were added
abbrev pub invariant-loop-i : goal.invariant-loop-i
invariant-loop-i l = Gains l.fn.touched l.touched (In l.row (λ node. (l.location ≤ node) × (node < l.location + l.i)))

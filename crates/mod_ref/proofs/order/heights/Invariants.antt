use Rattle.std.proofs.Common.{◌≡◌, length}
use Rattle.mod_ref.proofs.order.heights.Given as goal

-- one for each function
abbrev pub invariant-loop-f : goal.invariant-loop-f
invariant-loop-f l = length l.heights.items ≡ l.functions

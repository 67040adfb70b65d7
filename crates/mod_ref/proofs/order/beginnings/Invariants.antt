use Rattle.std.proofs.Common.{◌≡◌, length}
use Rattle.mod_ref.proofs.order.beginnings.Given as goal

-- one for each function
abbrev pub invariant-loop-i : goal.invariant-loop-i
invariant-loop-i l = length l.begins.items ≡ l.functions

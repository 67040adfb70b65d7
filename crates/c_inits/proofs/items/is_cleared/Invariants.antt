use Rattle.std.proofs.Common.{◌≡◌, ◌<◌, ℕ, take, false}
use Rattle.c_inits.specs.Items.{knows}
use Rattle.c_inits.proofs.items.is_cleared.Given as goal

-- no shorter beginning is among them
abbrev pub invariant-loop-end : goal.invariant-loop-end
invariant-loop-end l = (n : ℕ) → n < l.end → knows l.cleared (take n l.path) ≡ false

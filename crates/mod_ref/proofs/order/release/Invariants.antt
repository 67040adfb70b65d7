use Rattle.std.proofs.Common.{◌<◌, length, All}
use Rattle.mod_ref.proofs.order.release.Given as goal

-- each is a function
abbrev pub invariant-loop-i : goal.invariant-loop-i
invariant-loop-i l = All (λ f. f < length l.counts) l.list.items

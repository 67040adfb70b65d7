use Rattle.std.proofs.Common.{◌≡◌, ◌<◌, length, All}
use Rattle.mod_ref.proofs.order.callers_first.Given as goal

-- each is a function
abbrev pub invariant-loop-at : goal.invariant-loop-at
invariant-loop-at l = (length l.counts.items ≡ l.functions) × (length l.begins.items ≡ l.functions) × All (λ f. f < l.functions) l.list.items

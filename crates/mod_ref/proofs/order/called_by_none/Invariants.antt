use Rattle.std.proofs.Common.{◌<◌, length, All}
use Rattle.mod_ref.proofs.order.called_by_none.Given as goal

-- each is a function
abbrev pub invariant-loop-f : goal.invariant-loop-f
invariant-loop-f l = All (λ f. f < length l.counts) l.list.items

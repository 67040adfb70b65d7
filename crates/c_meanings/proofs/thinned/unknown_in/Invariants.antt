use Rattle.std.proofs.Common.{◌<◌, ℕ, All, length}
use Rattle.name_chains.specs.Links.{IsLinkOf}
use Rattle.name_chains.proofs.Linked.{left}
use Rattle.c_meanings.proofs.thinned.unknown_in.Given as goal

-- what is left of the list stands before what was taken
abbrev pub invariant-loop-at : goal.invariant-loop-at
invariant-loop-at l = record { last : IsLinkOf l.links l.at; within : All (λ (place : ℕ). place < length l.links) l.list.items }

abbrev pub decreases-loop-at : goal.decreases-loop-at
decreases-loop-at l = left l.at

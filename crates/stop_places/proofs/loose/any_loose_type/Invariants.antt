use Rattle.std.proofs.Common.{ℕ, ◌<◌, get_or}
use Rattle.stop_places.specs.Loose.{HasLooseType}
use Rattle.stop_places.specs.Sight.{solution_in}
use Rattle.stop_places.proofs.loose.any_loose_type.Given as goal

-- none so far
abbrev pub invariant-loop-n : goal.invariant-loop-n
invariant-loop-n l = (k : ℕ) → k < l.n-index → HasLooseType (solution_in l.sight).trees (get_or l.list k 0) → ⊥

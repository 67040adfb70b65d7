use Rattle.std.proofs.Common.{ℕ, ◌<◌, get_or}
use Rattle.stop_places.specs.Loose.{IsLooseNode}
use Rattle.stop_places.specs.Sight.{solution_in}
use Rattle.stop_places.proofs.loose.some_loose.Given as goal

-- none so far
abbrev pub invariant-loop-a : goal.invariant-loop-a
invariant-loop-a l = (k : ℕ) → k < l.a-index → IsLooseNode (solution_in l.sight).trees (get_or l.values k 0) → ⊥

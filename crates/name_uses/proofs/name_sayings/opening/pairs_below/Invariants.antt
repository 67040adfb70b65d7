use Rattle.std.proofs.Common.{ℕ, ◌<◌, All, take}
use Rattle.name_uses.proofs.name_sayings.opening.pairs_below.Given as goal

abbrev pub invariant-loop-pair : goal.invariant-loop-pair
invariant-loop-pair l = All (λ (p : ℕ × ℕ). p.1 < l.count) (take l.pair-index l.pairs)

use Rattle.std.proofs.Common.{ℕ, ◌<◌, get_or}
use Rattle.c_scope.specs.declared.kinds.Declared.{Declared}
use Rattle.unit_walk.proofs.unit_choices.names.are_below.Given as goal

-- those so far are
abbrev pub invariant-loop-one : goal.invariant-loop-one
invariant-loop-one l = (k : ℕ) (d : Declared) → k < l.one-index → (get_or l.declared k d).node < l.count

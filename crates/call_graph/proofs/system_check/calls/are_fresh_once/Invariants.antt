use Rattle.std.proofs.Common.{◌≢◌, ℕ, ◌<◌, length, get_or}
use Rattle.call_graph.proofs.system_check.calls.are_fresh_once.Given as goal

-- each pair so far names another function than all later ones
abbrev pub invariant-loop-i : goal.invariant-loop-i
invariant-loop-i l = (k : ℕ) → k < l.i → (j : ℕ) (d : ℕ × ℕ) → k < j → j < length l.fresh → (get_or l.fresh k d).0 ≢ (get_or l.fresh j d).0

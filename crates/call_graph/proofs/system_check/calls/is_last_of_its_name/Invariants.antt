use Rattle.std.proofs.Common.{◌≢◌, ℕ, ◌<◌, length, get_or}
use Rattle.call_graph.proofs.system_check.calls.is_last_of_its_name.Given as goal

-- the pairs so far name other functions
abbrev pub invariant-loop-j : goal.invariant-loop-j
invariant-loop-j l = (k : ℕ) (d : ℕ × ℕ) → l.i < k → k < l.j → k < length l.fresh → (get_or l.fresh l.i d).0 ≢ (get_or l.fresh k d).0

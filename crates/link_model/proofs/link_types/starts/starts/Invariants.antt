use Rattle.std.proofs.Common.{◌≡◌, ◌+◌, ◌≤◌, ℕ, length, sum, take, get_or}
use Rattle.link_model.proofs.link_types.starts.starts.Given as goal

abbrev pub invariant-loop-count : goal.invariant-loop-count
invariant-loop-count l = record {
  next : l.next ≡ sum (take l.count-index l.counts);
  all : length l.list.items ≡ l.count-index + 1;
  each : (k : ℕ) → k ≤ l.count-index → get_or l.list.items k 0 ≡ sum (take k l.counts);
}

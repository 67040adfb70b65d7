use Rattle.std.proofs.Common.{◌≡◌, ◌≤◌, length, map}
use Rattle.std.specs.List.{range_with_len}
use Rattle.call_sites.specs.Calls.{calls_upto}
use Rattle.stop_places.proofs.tables.calls_before.Given as goal

abbrev pub invariant-loop-n : goal.invariant-loop-n
invariant-loop-n l = record {
  list : l.list.items ≡ map (λ k. length (calls_upto l.nodes k)) (range_with_len 0 l.n);
  calls : l.calls ≡ length (calls_upto l.nodes l.n);
  few : l.calls ≤ l.n;
}

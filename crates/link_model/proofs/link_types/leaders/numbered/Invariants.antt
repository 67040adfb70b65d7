use Rattle.std.proofs.Common.{◌≡◌, ◌<◌, ◌≤◌, ℕ, length, get_or}
use Rattle.link_model.specs.link_types.Leaders.{leaders_below}
use Rattle.link_model.proofs.link_types.leaders.numbered.Given as goal

abbrev pub invariant-loop-here : goal.invariant-loop-here
invariant-loop-here l = record {
  count_is : l.count ≡ leaders_below l.leaders l.here;
  small : l.count ≤ l.here;
  all : length l.list.items ≡ l.here;
  each : (k : ℕ) → k < l.here → get_or l.list.items k 0 ≡ leaders_below l.leaders (get_or l.leaders k 0);
}

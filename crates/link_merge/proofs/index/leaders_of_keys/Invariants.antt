use Rattle.std.proofs.Common.{◌≡◌, ◌<◌, ℕ, length, get_or}
use Rattle.c_types.specs.Index.{number_at}
use Rattle.unit_link.specs.link_program.Alike.{IsLeader, KnowsLabels}
use Rattle.link_merge.specs.Keys.{keys_of}
use Rattle.link_merge.proofs.index.leaders_of_keys.Given as goal

abbrev pub invariant-loop-here : goal.invariant-loop-here
invariant-loop-here l = record {
  knows : KnowsLabels (keys_of l.keys) l.here (number_at l.index);
  all : length l.list.items ≡ l.here;
  each : (k : ℕ) → k < l.here → IsLeader (keys_of l.keys) k (get_or l.list.items k 0);
}

use Rattle.std.proofs.Common.{◌≡◌, ◌<◌, ℕ, length, get_or}
use Rattle.link_names.specs.Firsts.{known}
use Rattle.unit_link.specs.link_program.Alike.{IsLeader, KnowsLabels}
use Rattle.unit_link.proofs.link_program.labels.leaders_alike.Given as goal

abbrev pub invariant-loop-here : goal.invariant-loop-here
invariant-loop-here l = record {
  knows : KnowsLabels l.labels l.here (known l.firsts);
  all : length l.list.items ≡ l.here;
  each : (k : ℕ) → k < l.here → IsLeader l.labels k (get_or l.list.items k 0);
}

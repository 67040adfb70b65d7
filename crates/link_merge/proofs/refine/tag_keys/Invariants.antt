use Rattle.std.proofs.Common.{◌≡◌, ◌<◌, ℕ, Some, length, slice_get}
use Rattle.link_merge.specs.Keys.{keys_of}
use Rattle.link_merge.specs.Classes.{round_key}
use Rattle.link_merge.proofs.refine.tag_keys.Given as goal

abbrev pub invariant-loop-here : goal.invariant-loop-here
invariant-loop-here l = record {
  all : length (keys_of l.list.items) ≡ l.here;
  each : (g : ℕ) → g < l.here → slice_get (keys_of l.list.items) g ≡ Some (Some (round_key l.units l.type_starts l.firsts l.tags l.counted l.leaders g));
}

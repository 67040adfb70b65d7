use Rattle.std.proofs.Common.{◌≡◌, ◌<◌, ℕ, None, Some, length, slice_get}
use Rattle.std.specs.List.{slice_index_or}
use Rattle.link_model.specs.declared.item.Item.{Item}
use Rattle.link_merge.specs.Counted.{CountedAt}
use Rattle.link_merge.proofs.counted.counted.Given as goal

abbrev pub invariant-loop-here : goal.invariant-loop-here
invariant-loop-here l = record {
  all : length l.list.items ≡ l.here;
  each : (g : ℕ) (a : Item) → g < l.here → slice_get l.tags g ≡ Some a → CountedAt l.units l.tags l.leaders g a (slice_index_or l.list.items g None);
}

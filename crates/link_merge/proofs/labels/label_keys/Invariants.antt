use Rattle.std.proofs.Common.{◌≡◌, ◌<◌, ℕ, Some, length, slice_get}
use Rattle.std.specs.Option.{option_map}
use Rattle.link_model.specs.declared.item.Item.{Item}
use Rattle.link_model.specs.Units.{label_at}
use Rattle.link_merge.specs.Keys.{keys_of, label_code}
use Rattle.link_merge.proofs.labels.label_keys.Given as goal

abbrev pub invariant-loop-here : goal.invariant-loop-here
invariant-loop-here l = record {
  all : length (keys_of l.list.items) ≡ l.here;
  each : (g : ℕ) (a : Item) → g < l.here → slice_get l.tags g ≡ Some a → slice_get (keys_of l.list.items) g ≡ Some (option_map label_code (label_at l.units a));
}

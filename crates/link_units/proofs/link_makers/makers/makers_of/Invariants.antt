use Rattle.std.proofs.Common.{◌≡◌, ◌<◌, ℕ, None, length, get_or}
use Rattle.std.specs.List.{slice_get}
use Rattle.std.specs.Option.{option_or}
use Rattle.link_units.proofs.link_makers.makers.makers_of.Given as goal

abbrev pub invariant-loop-here : goal.invariant-loop-here
invariant-loop-here l = record {
  all : length l.list.items ≡ l.here;
  each : (k : ℕ) → k < l.here → slice_get l.list.items k ≡ option_or (get_or l.bodies.items k None) (option_or (get_or l.defined.items k None) (slice_get l.scene.declared.now k));
}

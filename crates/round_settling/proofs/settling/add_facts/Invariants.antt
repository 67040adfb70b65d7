use Rattle.std.proofs.Common.{◌≡◌, ℕ, ◌+◌, ◌<◌, ◌≤◌, length, Some, slice_get, Contains}
use Rattle.edge_book.specs.Edges.{AreApart, Gains}
use Rattle.sol_model.specs.Families.{Has}
use Rattle.set_rows.specs.Views.{OnlyAdded, known}
use Rattle.set_rows.specs.Calls.{view, IsOf}
use Rattle.round_pieces.specs.delta_prop.Deltas.{IsSound}
use Rattle.new_members.proofs.Through.{Through}
use Rattle.round_settling.proofs.settling.add_facts.Given as goal

abbrev pub invariant-loop-row : goal.invariant-loop-row
invariant-loop-row l = record {
  own : IsOf l.table l.seat;
  more : OnlyAdded (view l.initial.seat) (view l.seat);
  sound : IsSound (view l.initial.seat) → IsSound (view l.seat);
  has : (k row location : ℕ) → k < l.row-index → slice_get l.demanded k ≡ Some (row, location) → Has (known (view l.seat)) row location;
  had : (row location : ℕ) → Contains l.facts (row, location) → Has (known (view l.seat)) row location;
  facts : Gains l.initial.facts l.facts (Through l.demanded (λ (pair : ℕ × ℕ) (a b : ℕ). (a ≡ pair.0) × (b ≡ pair.1)) l.row-index);
  once : AreApart l.initial.facts → AreApart l.facts;
  ors : (view l.seat).ors + length l.initial.facts ≤ (view l.initial.seat).ors + length l.facts;
}

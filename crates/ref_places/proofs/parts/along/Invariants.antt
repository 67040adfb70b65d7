-- What is left leads to the same type.
use Rattle.std.proofs.Common.{◌≡◌, IfSome, drop, length}
use Rattle.ref_cells.specs.Wholes.{shape_in, IsOver}
use Rattle.ref_places.specs.Parts.{along}
use Rattle.ref_places.proofs.parts.along.Given as goal

abbrev pub invariant-loop-step : goal.invariant-loop-step
invariant-loop-step l = record {
  left : along l.types (shape_in l.types l.part) (drop l.step-index l.path) ≡ along l.types (shape_in l.types l.fn.whole) l.path;
  known : IfSome l.part (IsOver (length l.types.terms));
}

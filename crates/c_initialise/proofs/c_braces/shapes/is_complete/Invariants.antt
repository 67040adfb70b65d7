use Rattle.std.proofs.Common.{◌≡◌, ◌<◌, length, is_some}
use Rattle.c_types.specs.Table.{type_of}
use Rattle.c_inits.specs.Made.{shape_of}
use Rattle.c_inits.specs.Tables.{fillable}
use Rattle.c_initialise.proofs.c_braces.shapes.is_complete.Given as goal

-- an array has a shape where its elements have
abbrev pub invariant-inward : goal.invariant-inward
invariant-inward l = record {
  known : l.here.0 < length l.types.terms;
  same : is_some (shape_of (fillable l.types) (type_of l.types l.here.0)) ≡ is_some (shape_of (fillable l.types) (type_of l.types l.fn.id.0));
}

abbrev pub decreases-inward : goal.decreases-inward
decreases-inward l = l.here.0

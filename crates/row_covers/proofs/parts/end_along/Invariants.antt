use Rattle.std.proofs.Common.{◌<◌, Some, false, length, drop}
use Rattle.c_types.specs.Table.{type_of}
use Rattle.obj_space.specs.Spots.{reached, part_at}
use Rattle.row_covers.proofs.Walked.{Along}
use Rattle.row_covers.proofs.parts.end_along.Given as goal

abbrev pub invariant-loop-step : goal.invariant-loop-step
invariant-loop-step l = record {
  known : l.part.ty.0 < length l.types.terms;
  along : Along l.types l.part (drop l.step-index l.path) (part_at l.types (Some (reached (type_of l.types l.fn.whole.0) 0 false)) l.path);
}

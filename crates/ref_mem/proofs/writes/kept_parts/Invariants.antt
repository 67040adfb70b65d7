-- The parts so far.
use Rattle.std.proofs.Common.{◌≡◌, take}
use Rattle.ref_cells.specs.Wholes.{shape_in}
use Rattle.ref_mem.specs.Writes.{kept_parts}
use Rattle.ref_mem.proofs.writes.kept_parts.Given as goal

abbrev pub invariant-loop-part : goal.invariant-loop-part
invariant-loop-part l = l.list.items ≡ kept_parts l.types (shape_in l.types l.whole) (take l.part-index l.parts)

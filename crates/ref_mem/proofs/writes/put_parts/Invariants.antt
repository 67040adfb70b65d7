-- What is left to put.
use Rattle.std.proofs.Common.{◌≡◌, drop}
use Rattle.ref_cells.specs.Wholes.{shape_in}
use Rattle.ref_mem.specs.Writes.{put_all}
use Rattle.ref_mem.proofs.writes.put_parts.Given as goal

abbrev pub invariant-loop-part : goal.invariant-loop-part
invariant-loop-part l =
    put_all l.filling.types.now l.filling.marked (shape_in l.filling.types.now l.whole) (drop l.part-index l.parts) l.all
    ≡ put_all l.filling.types.now l.filling.marked (shape_in l.filling.types.now l.whole) l.parts l.cells

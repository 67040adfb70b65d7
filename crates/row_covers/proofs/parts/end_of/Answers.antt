use Rattle.std.proofs.Common.{Some, false, sym, subst}
use Rattle.obj_space.specs.Spots.{reached, part_at}
use Rattle.ref_cells.specs.declared.wholes.Whole.{Whole}
use Rattle.ref_cells.specs.Wholes.{shape_of}
use Rattle.row_covers.specs.Parts.{IsEnd}
use Rattle.row_covers.proofs.parts.end_of.Goals as goal

pub returns-in-Many : goal.returns-in-Many
returns-in-Many c =
    subst (λ (w : Whole). IsEnd (part_at c.args.types.now (Some (reached (shape_of c.args.types.now w) 0 false)) c.args.path.now) c.array_end.result) (sym c.in-Many.is) (c.array_end.ensures (Some c.in-Many.field-1))

use Rattle.std.proofs.Common.{◌≡◌, None, Option, ap, ◌∙◌}
use Rattle.obj_space.specs.Spots.{part_at}
use Rattle.obj_space.proofs.Followed.{no_part}
use Rattle.ref_cells.specs.declared.wholes.Whole.{Whole}
use Rattle.ref_cells.specs.Wholes.{shape_in}
use Rattle.covering_laws.specs.covered_memory.Spots.{whole_part}
use Rattle.row_covers.proofs.cells.end_in.Goals as goal

pub returns-in-None : goal.returns-in-None
returns-in-None c =
    ap (λ (o : Option Whole). part_at c.args.types.now (whole_part (shape_in c.args.types.now o)) c.args.path.now) c.in-None.is ∙ no_part c.args.types.now c.args.path.now

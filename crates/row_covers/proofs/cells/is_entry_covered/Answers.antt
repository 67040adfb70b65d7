use Rattle.std.proofs.Common.{List, subst}
use Rattle.c_types.specs.declared.term.PathStep.{PathStep}
use Rattle.row_covers.specs.Parts.{IsEnd}
use Rattle.obj_space.specs.Spots.{part_at}
use Rattle.ref_cells.specs.Wholes.{shape_in}
use Rattle.covering_laws.specs.covered_memory.Covered.{pointer_row}
use Rattle.covering_laws.specs.covered_memory.Spots.{whole_part}
use Rattle.row_covers.specs.Cells.{row_by, EntryBy}
use Rattle.row_covers.specs.Scene.{sets_over}
use Rattle.row_covers.proofs.Decided.{cell_same}
use Rattle.row_covers.proofs.Rows.{no_such_row}
use Rattle.row_covers.proofs.cells.is_entry_covered.Goals as goal

pub returns : goal.returns
unfolding EntryBy
returns c =
    let g = sets_over c.args.scene.now in
    let r = part_at g.table (whole_part (shape_in g.table c.args.whole)) c.args.entry.now.0 in
    let same =
    cell_same g c.args.memory.now (no_such_row c.args.scene.now.system.now c.args.scene.now.rows.now c.requires.scene.valid c.requires.scene.fits) c.pointer_row.result (pointer_row (row_by g.table c.args.rows) r) c.args.entry.now.1
    (c.pointer_row.ensures r (subst (λ (path : List PathStep). IsEnd (part_at g.table (whole_part (shape_in g.table c.args.whole)) path) c.end_in-end.result) c.as_slice.ensures c.end_in-end.ensures)) in
    ((λ h. same.0 (c.is_covered.ensures.0 h)), (λ h. c.is_covered.ensures.1 (same.1 h)))

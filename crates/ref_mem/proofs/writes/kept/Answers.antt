use Rattle.std.proofs.Common.{map, sym, ap, ◌∙◌, subst}
use Rattle.c_types.specs.Table.{type_of}
use Rattle.ref_cells.specs.Cells.{Entry}
use Rattle.ref_cells.specs.Order.{IsOrdered}
use Rattle.ref_mem.specs.Writes.{kept_cell}
use Rattle.ref_cells.proofs.Ordered.{kept_ordered}
use Rattle.ref_mem.proofs.writes.kept.Goals as goal

pub of-requires : goal.of-requires
of-requires c =
    let f = kept_cell (type_of c.args.types.now c.args.found.0) c.args.width in
    let same = c.in_ok-list-in_default.ensures ∙ ap (map (λ (e : Entry). (e.0, f e.1))) c.as_slice.ensures.cells in
    subst IsOrdered (sym same) (kept_ordered f c.args.value.now c.as_slice.ensures.ordered)

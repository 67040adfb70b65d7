use Rattle.std.proofs.Common.{sym, subst}
use Rattle.c_types.specs.Table.{type_of}
use Rattle.ref_cells.specs.Cells.{Entry}
use Rattle.ref_cells.specs.Order.{IsOrdered}
use Rattle.ref_copies.specs.Copies.{byte_at}
use Rattle.ref_elements.proofs.Mapped.{ordered_mapped}
use Rattle.ref_copies.proofs.sets.set_cells.Goals as goal

pub of-requires : goal.of-requires
of-requires c =
    let g = λ (e : Entry). byte_at c.args.types.now (type_of c.args.types.now c.args.id.0) c.args.byte e.0 in
    let ordered = subst IsOrdered (sym c.as_slice.ensures.cells) c.as_slice.ensures.ordered in
    subst IsOrdered (sym c.in_ok-list.ensures) (ordered_mapped g c.as_slice.result.now ordered)

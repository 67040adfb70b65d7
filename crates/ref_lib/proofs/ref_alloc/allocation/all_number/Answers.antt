use Rattle.std.proofs.Common.{pos, sym, subst}
use Rattle.ref_cells.specs.declared.cells.Cell.{Cell}
use Rattle.ref_cells.specs.declared.cells.Cell.TheVariants.{Number}
use Rattle.ref_cells.specs.Cells.{Entry}
use Rattle.ref_cells.specs.Order.{IsOrdered}
use Rattle.ref_elements.proofs.Mapped.{ordered_mapped}
use Rattle.ref_lib.proofs.ref_alloc.allocation.all_number.Goals as goal

pub of-requires : goal.of-requires
of-requires c =
    let g = λ (e : Entry). let r : Cell = Number (pos c.args.n) in r in
    let ordered = subst IsOrdered (sym c.as_slice.ensures.cells) c.as_slice.ensures.ordered in
    subst IsOrdered (sym c.in_ok-list-in-Some.ensures) (ordered_mapped g c.as_slice.result.now ordered)

use Rattle.std.proofs.Common.{arith, ◌≤◌, length, sym, subst}
use Rattle.ref_cells.specs.Order.{IsOrdered}
use Rattle.ref_start.specs.Objects.{cells_from}
use Rattle.ref_start.proofs.CellsInOrder.{cells_ordered, cells_end}
use Rattle.ref_start.proofs.objects.cells_of.Goals as goal

-- `of` stands twice: the first is `Listing::of` within the loop, the second `Cells::of` behind it
pub of-requires-2 : goal.of-requires-2
of-requires-2 c =
    let past : length c.args.cells.now ≤ c.loop-i.i = omega arith in
    subst IsOrdered (sym (cells_end c.args.cells.now c.loop-i.i c.loop-i.list.items (cells_from 0 c.args.cells.now) past c.loop-i.invariant))
    (cells_ordered 0 c.args.cells.now)

use Rattle.std.proofs.Common.{sym, subst}
use Rattle.ref_cells.specs.Order.{IsOrdered}
use Rattle.ref_cells.specs.Wholes.{shape_in}
use Rattle.ref_cells.proofs.Ordered.{put_ordered}
use Rattle.ref_cells.proofs.cells.Cells.put.Goals as goal

pub invariant_of-self-2 : goal.invariant_of-self-2
invariant_of-self-2 c =
    let table = c.args.filling.now.types.now in
    let ordered = subst IsOrdered (sym c.as_slice.ensures.cells) c.as_slice.ensures.ordered in
    subst IsOrdered (sym c.in_ok-put.ensures.ok) (put_ordered table c.args.filling.now.marked (shape_in table c.args.whole) c.args.path.now c.as_slice.result.now c.self.inside.list.items ordered c.self.invariant)

use Rattle.std.proofs.Common.{◌≡◌, ◌++◌, ◌+◌, ◌*◌, drop}
use Rattle.ref_cells.specs.Order.{IsOrdered}
use Rattle.ref_cells.proofs.Ordered.{AllBelow}
use Rattle.ref_mem.specs.Arguments.{argument_cells}
use Rattle.ref_mem.proofs.arguments.argument_cells.Given as goal

abbrev pub invariant-loop-i : goal.invariant-loop-i
invariant-loop-i l =
    (l.list.items ++ argument_cells l.i (drop l.i l.arguments) ≡ argument_cells 0 l.arguments)
    × AllBelow (2 * l.i + 1) l.list.items
    × IsOrdered l.list.items

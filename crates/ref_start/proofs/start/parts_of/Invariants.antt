use Rattle.std.proofs.Common.{◌≡◌, ◌++◌, drop}
use Rattle.ref_start.specs.Fixed.{value_at}
use Rattle.ref_start.specs.Start.{parts_of}
use Rattle.ref_start.proofs.start.parts_of.Given as goal

abbrev pub invariant-loop-i : goal.invariant-loop-i
invariant-loop-i l =
    l.parts.items ++ parts_of l.nodes (value_at l.table) (drop l.i l.paths) (drop l.i l.children)
    ≡ parts_of l.nodes (value_at l.table) l.paths l.children

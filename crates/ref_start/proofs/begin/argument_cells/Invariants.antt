use Rattle.std.proofs.Common.{◌≡◌, map}
use Rattle.std.specs.List.{range_with_len}
use Rattle.ref_elements.specs.Outcomes.{start_of}
use Rattle.ref_start.proofs.begin.argument_cells.Given as goal

abbrev pub invariant-loop-i : goal.invariant-loop-i
invariant-loop-i l = l.list.items ≡ map start_of (range_with_len l.first l.i)

-- The cells so far.
use Rattle.std.proofs.Common.{◌≡◌, map, take, pos}
use Rattle.ref_cells.specs.declared.cells.Cell.TheVariants.{Number}
use Rattle.ref_lib.proofs.ref_alloc.allocation.with_number.Given as goal

abbrev pub invariant-loop-entry : goal.invariant-loop-entry
invariant-loop-entry l = l.list.items ≡ map (λ e. (e.0, Number (pos l.n))) (take l.entry-index l.cells)

-- The cells so far.
use Rattle.std.proofs.Common.{◌≡◌, map, take}
use Rattle.c_types.specs.Table.{type_of}
use Rattle.ref_copies.specs.Copies.{byte_at}
use Rattle.ref_copies.proofs.sets.byte_cells.Given as goal

abbrev pub invariant-loop-entry : goal.invariant-loop-entry
invariant-loop-entry l = l.list.items ≡ map (λ e. (e.0, byte_at l.types (type_of l.types l.id.0) l.byte e.0)) (take l.entry-index l.cells)

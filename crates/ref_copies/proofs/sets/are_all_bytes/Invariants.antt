-- What is left decides.
use Rattle.std.proofs.Common.{◌≡◌, drop}
use Rattle.std.specs.List.{list_all}
use Rattle.c_types.specs.Table.{type_of}
use Rattle.ref_copies.specs.Copies.{is_free_byte}
use Rattle.ref_copies.proofs.sets.are_all_bytes.Given as goal

abbrev pub invariant-loop-entry : goal.invariant-loop-entry
invariant-loop-entry l = list_all (λ e. is_free_byte l.types (type_of l.types l.id.0) e.0) (drop l.entry-index l.cells) ≡ list_all (λ e. is_free_byte l.types (type_of l.types l.id.0) e.0) l.cells

use Rattle.std.proofs.Common.{◌≡◌, ◌++◌, take}
use Rattle.ref_mem.specs.Arguments.{under_index}
use Rattle.ref_mem.proofs.arguments.push_argument.Given as goal

abbrev pub invariant-loop-entry : goal.invariant-loop-entry
invariant-loop-entry l = l.list.items ≡ l.initial.list.items ++ under_index l.i (take l.entry-index l.value.cells)

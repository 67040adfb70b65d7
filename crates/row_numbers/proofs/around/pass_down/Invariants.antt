use Rattle.std.proofs.Common.{take}
use Rattle.row_numbers.specs.Around.{PassesDown}
use Rattle.row_numbers.proofs.around.pass_down.Given as goal

abbrev pub invariant-loop-child : goal.invariant-loop-child
invariant-loop-child l = PassesDown l.fn.owners.items l.owners.items (take l.child-index l.children) l.owner

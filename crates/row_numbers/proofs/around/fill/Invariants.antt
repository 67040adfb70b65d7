use Rattle.row_numbers.specs.Around.{PassesTo}
use Rattle.row_numbers.proofs.around.fill.Given as goal

abbrev pub invariant-loop-n : goal.invariant-loop-n
invariant-loop-n l = PassesTo l.fn.owners.items l.owners.items l.nodes l.n

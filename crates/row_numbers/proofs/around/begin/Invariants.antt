use Rattle.std.proofs.Common.{take, length}
use Rattle.row_numbers.specs.Around.{IsBegun}
use Rattle.row_numbers.proofs.around.begin.Given as goal

abbrev pub invariant-loop-f : goal.invariant-loop-f
invariant-loop-f l = IsBegun l.owners.items (length l.fn.owners.items) (take l.f l.entities)

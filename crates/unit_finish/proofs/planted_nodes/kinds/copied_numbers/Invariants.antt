use Rattle.std.proofs.Common.{◌≡◌, take}
use Rattle.unit_finish.proofs.planted_nodes.kinds.copied_numbers.Given as goal

abbrev pub invariant-loop-number : goal.invariant-loop-number
invariant-loop-number l = l.copy.items ≡ take l.number-index l.numbers

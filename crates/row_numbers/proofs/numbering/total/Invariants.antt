use Rattle.std.proofs.Common.{◌≡◌, ◌≤◌, ◌+◌, ◌*◌, ◌^◌, sum, take}
use Rattle.row_numbers.proofs.numbering.total.Given as goal

abbrev pub invariant-loop-number : goal.invariant-loop-number
invariant-loop-number l = (l.all ≡ sum (take l.number-index l.numbers)) × (l.all ≤ (2 ^ 24 + 2) * l.number-index)

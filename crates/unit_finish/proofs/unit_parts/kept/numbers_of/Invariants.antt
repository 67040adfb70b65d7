use Rattle.std.proofs.Common.{◌≡◌, ◌≤◌, ◌++◌, drop}
use Rattle.unit_finish.specs.unit_parts.Numbered.{numbered_from}
use Rattle.unit_finish.proofs.unit_parts.kept.numbers_of.Given as goal

-- the numbers so far, and those of the marks that are left
abbrev pub invariant-loop-mark : goal.invariant-loop-mark
invariant-loop-mark l = record {
  few : l.next ≤ l.mark-index;
  numbers : l.numbers.items ++ numbered_from l.next (drop l.mark-index l.marks) ≡ numbered_from 0 l.marks;
}

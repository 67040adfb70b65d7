use Rattle.std.proofs.Common.{◌≡◌, length}
use Rattle.core_tree.specs.Seen.{core_of}
use Rattle.ref_start.specs.Fixed.{MarkedGiven}
use Rattle.ref_start.proofs.fixed.fixed_values.Given as goal

abbrev pub invariant-loop-n : goal.invariant-loop-n
invariant-loop-n l = record {
  table : MarkedGiven (core_of l.trees) l.initial.memory l.marks.items l.n l.table.items;
  long : length l.table.items ≡ l.n;
  memory : l.memory ≡ l.initial.memory;
}

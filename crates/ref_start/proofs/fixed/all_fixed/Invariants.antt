use Rattle.std.proofs.Common.{◌≡◌, drop}
use Rattle.ref_start.specs.Fixed.{all_fixed, value_at}
use Rattle.ref_start.proofs.FixedSteps.{with_more}
use Rattle.ref_start.proofs.fixed.all_fixed.Given as goal

abbrev pub invariant-loop-c : goal.invariant-loop-c
invariant-loop-c l =
    with_more l.values.items (all_fixed (value_at l.table) (drop l.c-index l.children)) ≡ all_fixed (value_at l.table) l.children

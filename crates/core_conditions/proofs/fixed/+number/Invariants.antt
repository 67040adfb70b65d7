use Rattle.std.proofs.Common.{ℕ, ◌↔◌, ◌<◌, ◌≤◌, ◌+◌, ◌*◌, get_or}
use Rattle.core_tree.specs.Seen.{core_of}
use Rattle.core_tree.specs.Valid.{FixedNumber}
use Rattle.core_conditions.proofs.fixed.+number.Given as goal

abbrev pub decreases-fixed_number : goal.decreases-fixed_number
decreases-fixed_number l = 4 * l.n + 3

abbrev pub decreases-number_step : goal.decreases-number_step
decreases-number_step l = 4 * l.n + 2

abbrev pub decreases-operands : goal.decreases-operands
decreases-operands l = 4 * l.n + 1

abbrev pub decreases-fixed_numbers : goal.decreases-fixed_numbers
decreases-fixed_numbers l = 4 * l.n

abbrev pub decreases-fixed_number-down : goal.decreases-fixed_number-down
decreases-fixed_number-down l = l.at

abbrev pub invariant-fixed_number-down : goal.invariant-fixed_number-down
invariant-fixed_number-down l = record {
  within : l.at ≤ l.fn.n;
  same : FixedNumber (core_of l.trees) l.at ↔ FixedNumber (core_of l.trees) l.fn.n;
}

abbrev pub invariant-fixed_numbers-loop-c : goal.invariant-fixed_numbers-loop-c
invariant-fixed_numbers-loop-c l = (k d : ℕ) → k < l.c-index → FixedNumber (core_of l.trees) (get_or l.children k d)

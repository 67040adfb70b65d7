use Rattle.std.proofs.Common.{◌≡◌}
use Rattle.std.specs.List.{flat_map, range_with_len}
use Rattle.row_numbers.specs.Frame.{setting_in}
use Rattle.normal_form.specs.Assignments.{assignments_at}
use Rattle.normal_form.proofs.whole.assignments.Given as goal

abbrev pub invariant-loop-n : goal.invariant-loop-n
invariant-loop-n l = l.out ≡ flat_map (assignments_at (setting_in l.frame)) (range_with_len 0 l.n)

use Rattle.std.proofs.Common.{◌≡◌, ◌++◌, take}
use Rattle.std.specs.List.{flat_map}
use Rattle.row_numbers.specs.Frame.{setting_in}
use Rattle.normal_form.specs.Assignments.{gathered_row}
use Rattle.normal_form.proofs.rows.gathered_all.Given as goal

abbrev pub invariant-loop-v : goal.invariant-loop-v
invariant-loop-v l = l.out ≡ l.initial.out ++ flat_map (gathered_row (setting_in l.frame) l.n) (take l.v-index l.values)

use Rattle.std.proofs.Common.{◌≡◌, ◌++◌, take}
use Rattle.row_numbers.specs.Frame.{setting_in}
use Rattle.normal_form.specs.Assignments.{initialise_row}
use Rattle.normal_form.proofs.initial.initialised.Given as goal

abbrev pub invariant-loop-i : goal.invariant-loop-i
invariant-loop-i l = l.out ≡ l.fn.out ++ initialise_row (setting_in l.frame) l.e (take l.i l.paths) (take l.i l.values)

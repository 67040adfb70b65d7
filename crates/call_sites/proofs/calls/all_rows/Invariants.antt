use Rattle.std.proofs.Common.{◌≡◌, map, take}
use Rattle.row_numbers.specs.Frame.{setting_in}
use Rattle.row_numbers.specs.Setting.{value_rows}
use Rattle.call_sites.proofs.calls.all_rows.Given as goal

abbrev pub invariant-loop-value : goal.invariant-loop-value
invariant-loop-value l = l.lists ≡ map (value_rows (setting_in l.frame).trees (setting_in l.frame).space) (take l.value-index l.values)

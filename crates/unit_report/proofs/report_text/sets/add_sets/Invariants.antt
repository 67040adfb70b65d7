use Rattle.std.proofs.Common.{◌≡◌, ◌++◌, map}
use Rattle.std.specs.List.{filter, range_with_len}
use Rattle.sol_model.specs.Families.{members}
use Rattle.unit_report.specs.report_text.Report.{has_set, set_line, text_of}
use Rattle.unit_report.proofs.report_text.sets.add_sets.Given as goal

abbrev pub invariant-loop-location : goal.invariant-loop-location
invariant-loop-location l = l.text.items ≡ l.initial.text.items ++ text_of (map (set_line l.space l.system (members l.rows)) (filter (has_set l.space) (range_with_len 0 l.location)))
